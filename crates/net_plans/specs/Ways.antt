-- What threads find when they route nets side by side.
use Rattle.std.specs.Prelude.{◌≡◌, ℕ, ◌<◌, ◌≤◌, List, length, All, Some, Result, Ok, Err, slice_get}
use Rattle.spin_base.specs.{declared.chips.Chip.Chip, declared.chips.Spot.Spot, declared.blocks.Block.Block}
use Rattle.machine_desc.specs.{Description.Description, declared.trees.Tree.Tree, declared.nets.NetPlan.NetPlan}
use Rattle.machine_desc.specs.{Live.IsInside, Live.IsLiveLink, Live.IsSite, RoutingTree.IsRoutingTree, RoutingTree.IsTreeTo}
use Rattle.app_graph.specs.{declared.graphs.Graph.Graph, declared.graphs.Net.Net}
use Rattle.link_detours.specs.{declared.repairs.RepairErr.RepairErr, declared.repairs.RepairErr.TheVariants.CutOff}
use Rattle.link_detours.specs.Repair.{IsTreeWithDeadLinks, AreInPlaceOrder}
use Rattle.net_plans.specs.{declared.nets.RoutedNet.RoutedNet, declared.nets.NetErr.NetErr, Cause.IsCauseOne, CutOffTargets.HasNoneCutOff, NetPlans.IsPlannedNet}
use Rattle.net_plans.specs.declared.nets.NetErr.TheVariants as errors

-- a net whose source and targets, one at least, are among so many vertices
pub record HasEndsAmong (n : ℕ) (net : Net) : Type 0 where
  pub source : net.source < n
  pub some_target : 0 < length net.targets
  pub targets : All (λ t. t < n) net.targets

-- what threads are lent to route nets: a graph, a site for each vertex and a block for each net
pub record CanRoute (m : Description) (graph : Graph) (spots : List Spot) (blocks : List Block) : Type 0 where
  pub few : length graph.nets ≤ 4096
  pub ends : All (HasEndsAmong (length spots)) graph.nets
  pub sites : All (IsSite m) spots
  pub a_block_each : length blocks ≡ length graph.nets

-- and one of the nets
pub record CanRouteAt (m : Description) (graph : Graph) (spots : List Spot) (blocks : List Block) (i : ℕ) : Type 0 where
  pub can : CanRoute m graph spots blocks
  pub is_net : i < length graph.nets

-- What is known of a tree that grew, of which links may be dead: there are targets, all on the machine, edges are in order, and
-- where all of them live it is a tree to its targets.
pub record IsGrownTree (m : Description) (tree : Tree) (chips : List Chip) : Type 0 where
  pub has_dead_links : IsTreeWithDeadLinks m tree.root tree.edges
  pub some_target : 0 < length chips
  pub targets_inside : All (IsInside m) chips
  pub in_order : AreInPlaceOrder m tree.edges
  pub whole : All (λ e. IsLiveLink m e.chip e.dir) tree.edges → IsTreeTo m tree.root tree.edges chips

-- a net's plan, whose tree leads to its targets, with no target cut off
pub record HasTreeAndPlan (m : Description) (spots : List Spot) (net : Net) (block : Block) (plan : NetPlan) : Type 0 where
  pub planned : IsPlannedNet m spots net block plan
  pub routing : IsRoutingTree m plan.tree.root plan.tree.edges plan.targets
  pub reached : HasNoneCutOff m spots net

-- what routing a net may answer
abbrev pub IsRoutingAnswer : Description → List Spot → Net → Block → Result NetPlan RepairErr → Type 0
IsRoutingAnswer m spots net block (Ok plan) = HasTreeAndPlan m spots net block plan
IsRoutingAnswer m spots net block (Err e) = IsCauseOne m spots net e

-- what came of routing the net at this place
pub record IsRoutedNet (m : Description) (spots : List Spot) (nets : List Net) (blocks : List Block) (i : ℕ) (item : RoutedNet) : Type 0 where
  pub names : item.net ≡ i
  pub net : Net
  pub at : slice_get nets i ≡ Some net
  pub block : Block
  pub keyed : slice_get blocks i ≡ Some block
  pub way : IsRoutingAnswer m spots net block item.way

-- what came of routing each net, in the order of the nets
pub record AreRoutedNets (m : Description) (spots : List Spot) (nets : List Net) (blocks : List Block) (items : List RoutedNet) : Type 0 where
  pub one_each : length items ≡ length nets
  pub each : (i : ℕ) (item : RoutedNet) → slice_get items i ≡ Some item → IsRoutedNet m spots nets blocks i item

-- ---- looked through in order

-- each item has a plan, which stands at its place
pub record HaveWays (items : List RoutedNet) (plans : List NetPlan) : Type 0 where
  pub plans_long : length plans ≡ length items
  pub each : (i : ℕ) (item : RoutedNet) (plan : NetPlan) → slice_get items i ≡ Some item → slice_get plans i ≡ Some plan → item.way ≡ Ok plan

-- an item has a target that is cut off, and each before it has a plan
pub record IsFirstCut (items : List RoutedNet) (net : ℕ) (target : Chip) : Type 0 where
  pub place : ℕ
  pub item : RoutedNet
  pub at : slice_get items place ≡ Some item
  pub names : item.net ≡ net
  pub cut_off : item.way ≡ Err (CutOff target)
  pub before : (j : ℕ) (other : RoutedNet) → j < place → slice_get items j ≡ Some other → (plan : NetPlan) × (other.way ≡ Ok plan)

-- the first item without a plan has a target that is cut off; want of memory is free
abbrev pub IsFirstWithout : List RoutedNet → NetErr → Type 0
IsFirstWithout items (errors.CutOff net target) = IsFirstCut items net target
IsFirstWithout items errors.Memory = Unit {0}
