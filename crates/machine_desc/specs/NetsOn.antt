-- Nets that stand on a machine whose vertices are on these spots, and the ways of their packets.
use Rattle.std.specs.Prelude.{◌≡◌, ◌≢◌, ℕ, List, All, AllPairs, Contains, Option, Some, position}
use Rattle.spin_base.specs.declared.chips.Spot.{Spot}
use Rattle.spin_base.specs.Equality.{spot_eq}
use Rattle.machine_desc.specs.Description.{Description}
use Rattle.machine_desc.specs.RoutingTree.{IsRoutingTree}
use Rattle.machine_desc.specs.Branch.{Exit, IsBranch}
use Rattle.machine_desc.specs.declared.nets.NetPlan.{NetPlan}
use Rattle.machine_desc.specs.RightTables.{IsKeyOf}

-- the vertex on a spot, if there is one
abbrev pub vertex_at : List Spot → Spot → Option ℕ
vertex_at spots s = position (spot_eq s) spots

-- no key of 32 bits is in both blocks of any two nets
abbrev pub HaveDisjointBlocks : List NetPlan → Type 0
HaveDisjointBlocks nets = AllPairs (λ a b. (key : ℕ) → IsKeyOf a.block key → IsKeyOf b.block key → ⊥) nets

-- The nets stand on the machine: their blocks are disjoint, each tree is a routing tree from the source's chip to the
-- targets, and source and targets are spots of vertices, the targets different (this project's own).
pub record AreNetsOn (m : Description) (spots : List Spot) (nets : List NetPlan) : Type 0 where
  pub disjoint : HaveDisjointBlocks nets
  pub trees : All (λ net. IsRoutingTree m net.tree.root net.tree.edges net.targets) nets
  pub roots : All (λ net. net.tree.root ≡ net.source.chip) nets
  pub sources : All (λ net. Contains spots net.source) nets
  pub targets : All (λ net. All (Contains spots) net.targets) nets
  pub different : All (λ net. AllPairs (λ a b. a ≢ b) net.targets) nets

-- A way of a net: a target of it, with the branch of the net's tree to it, and the vertices at both ends.
pub record IsWayOn (m : Description) (spots : List Spot) (net : NetPlan) (target : Spot) (branch : List Exit) (from to : ℕ) : Type 0 where
  pub is_target : Contains net.targets target
  pub is_branch : IsBranch m net.tree.root net.tree.edges target branch
  pub begins : vertex_at spots net.source ≡ Some from
  pub ends : vertex_at spots target ≡ Some to
