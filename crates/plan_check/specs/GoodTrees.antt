-- Trees that are handed in (this project's own).
use Rattle.std.specs.Prelude.{◌≡◌, List}
use Rattle.spin_base.specs.declared.chips.Chip.{Chip}
use Rattle.spin_base.specs.declared.chips.Spot.{Spot}
use Rattle.machine_desc.specs.declared.trees.Tree.{Tree}
use Rattle.machine_desc.specs.Description.{Description}
use Rattle.machine_desc.specs.RoutingTree.{IsRoutingTree}

-- A tree is good for a root and targets where it begins at the root and is a routing tree to the targets.
pub record IsGood (m : Description) (tree : Tree) (root : Chip) (targets : List Spot) : Type 0 where
  pub begins : tree.root ≡ root
  pub routes : IsRoutingTree m root tree.edges targets
