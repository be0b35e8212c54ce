-- The nets of a graph with trees that were handed in: all but the trees is what compiling gives (this project's own).
use Rattle.std.specs.Prelude.{◌≡◌, ℕ, ◌<◌, List, length, All, AllPairs, Some, slice_get}
use Rattle.std.specs.List.Sorted.{IsPermutation}
use Rattle.spin_base.specs.declared.blocks.Block.{Block}
use Rattle.spin_base.specs.declared.chips.Chip.{Chip}
use Rattle.spin_base.specs.declared.chips.Spot.{Spot}
use Rattle.machine_desc.specs.declared.trees.Edge.{Edge}
use Rattle.machine_desc.specs.declared.trees.Tree.{Tree}
use Rattle.machine_desc.specs.Description.{Description}
use Rattle.machine_desc.specs.Live.{IsInside}
use Rattle.app_graph.specs.declared.graphs.Graph.{Graph}
use Rattle.app_graph.specs.declared.graphs.Net.{Net}
use Rattle.machine_desc.specs.EdgeOrder.{IsEdgeBefore}
use Rattle.machine_desc.specs.declared.nets.NetPlan.{NetPlan}
use Rattle.place_fit.specs.Placement.{IsPlacement}
use Rattle.key_alloc.specs.KeyBlocks.{AreRightBlocks}
use Rattle.net_plans.specs.Targets.{AreTargets}

-- The tree of handed-in edges begins at the root, and has each of these edges as often as it was handed in, in order of x, then
-- y, then the link's number.
pub record IsTreeOf (root : Chip) (edges : List Edge) (tree : Tree) : Type 0 where
  pub begins : tree.root ≡ root
  pub same_edges : IsPermutation edges tree.edges
  pub in_order : AllPairs (λ e f. IsEdgeBefore f e → ⊥) tree.edges

-- A net with its tree: its block, the core of its source, its targets, and the tree of the edges that were handed in for it,
-- which begins at the source's chip.
pub record IsNetWith (spots : List Spot) (net : Net) (block : Block) (edges : List Edge) (plan : NetPlan) : Type 0 where
  pub keyed : plan.block ≡ block
  pub source : slice_get spots net.source ≡ Some plan.source
  pub targets : AreTargets spots net.targets plan.targets
  pub tree : IsTreeOf plan.source.chip edges plan.tree

-- at each place, the net with its block and the edges handed in for it
abbrev pub IsEachNetWith : List Spot → List Net → List Block → List (List Edge) → List NetPlan → Type 0
IsEachNetWith spots nets blocks trees plans =
    (i : ℕ) (net : Net) (block : Block) (edges : List Edge) (plan : NetPlan) → slice_get nets i ≡ Some net → slice_get blocks i ≡ Some block →
    slice_get trees i ≡ Some edges → slice_get plans i ≡ Some plan → IsNetWith spots net block edges plan

-- The nets of a graph on a machine, each with the tree that was handed in at its place: vertices are placed and nets have
-- blocks as compiling does it.
pub record AreNetsWith (m : Description) (graph : Graph) (trees : List (List Edge)) (plans : List NetPlan) : Type 0 where
  pub spots : List Spot
  pub memory : List ℕ
  pub placed : IsPlacement m graph.vertices spots memory
  pub blocks : List Block
  pub keyed : AreRightBlocks graph.nets blocks
  pub one_tree_each : length trees ≡ length graph.nets
  pub one_plan_each : length plans ≡ length graph.nets
  pub each : IsEachNetWith spots graph.nets blocks trees plans

-- The net begins on a chip of the grid, and its targets are cores or devices of a chip.
pub record StandsOnSites (m : Description) (net : NetPlan) : Type 0 where
  pub source : IsInside m net.source.chip
  pub cores : All (λ (s : Spot). s.core < 24) net.targets
