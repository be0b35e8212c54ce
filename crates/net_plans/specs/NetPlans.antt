-- What a graph's nets need on the machine, once vertices have cores and nets have blocks (this project's own; trees as in
-- Navaridas and others, 2015).
use Rattle.std.specs.Prelude.{◌≡◌, ◌≤◌, ℕ, List, length, map, Some, slice_get}
use Rattle.spin_base.specs.declared.chips.Chip.{Chip}
use Rattle.spin_base.specs.declared.chips.Spot.{Spot}
use Rattle.spin_base.specs.declared.blocks.Block.{Block}
use Rattle.machine_desc.specs.Description.{Description}
use Rattle.app_graph.specs.declared.graphs.Net.{Net}
use Rattle.machine_desc.specs.declared.nets.NetPlan.{NetPlan}
use Rattle.ner_trees.specs.declared.growths.Grown.{Grown}
use Rattle.ner_trees.specs.declared.growths.Join.{Join}
use Rattle.ner_trees.specs.Growth.{IsGrown, distance_sum}
use Rattle.link_detours.specs.Repair.{IsRepaired}
use Rattle.net_plans.specs.Targets.{AreTargets, AreTargetChips}

-- the chips that were joined to a tree, in their order
abbrev pub joined_chips : Grown → List Chip
joined_chips grown = map (λ (j : Join). j.target) grown.joins

-- The plan of a net has its block, the core of its source, and its targets. A tree grows from the source's chip to the
-- target chips, whatever is dead, with no more edges than the target chips are far from the root, all together. The net's
-- tree is that tree with its detours round dead links.
pub record IsPlannedNet (m : Description) (spots : List Spot) (net : Net) (keys : Block) (plan : NetPlan) : Type 0 where
  pub growth : Grown
  pub block : plan.block ≡ keys
  pub source : slice_get spots net.source ≡ Some plan.source
  pub targets : AreTargets spots net.targets plan.targets
  pub chips : AreTargetChips m plan.source.chip plan.targets (joined_chips growth)
  pub grows_from : growth.tree.root ≡ plan.source.chip
  pub grown : IsGrown m plan.source.chip (joined_chips growth) growth.joins growth.tree.edges
  pub few_edges : length growth.tree.edges ≤ distance_sum m plan.source.chip (joined_chips growth)
  pub root : plan.tree.root ≡ plan.source.chip
  pub repaired : IsRepaired m plan.source.chip growth.tree.edges (joined_chips growth) plan.tree.edges

-- at each place, the net with its block has its plan
abbrev pub IsEachPlanned : Description → List Spot → List Net → List Block → List NetPlan → Type 0
IsEachPlanned m spots nets blocks plans =
    (i : ℕ) (net : Net) (block : Block) (plan : NetPlan) → slice_get nets i ≡ Some net → slice_get blocks i ≡ Some block →
    slice_get plans i ≡ Some plan → IsPlannedNet m spots net block plan

-- The plans of nets: each net has a plan, at the net's place in the list.
pub record ArePlanned (m : Description) (spots : List Spot) (nets : List Net) (blocks : List Block) (plans : List NetPlan) : Type 0 where
  pub one_plan_each : length plans ≡ length nets
  pub each : IsEachPlanned m spots nets blocks plans
