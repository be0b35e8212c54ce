-- How often nets have a chip in their trees, as the private functions say it.
use Rattle.std.specs.Prelude.{◌≡◌, ℕ, ◌≤◌, ◌==◌, List, [], ◌∷◌, All, Option, Some, None, count_by, slice_get}
use Rattle.std.specs.List.{flat_map}
use Rattle.spin_base.specs.declared.chips.Chip.{Chip}
use Rattle.machine_desc.specs.declared.trees.Edge.{Edge}
use Rattle.machine_desc.specs.Description.{Description}
use Rattle.machine_desc.specs.Live.{index_of, IsInside}
use Rattle.machine_desc.specs.RoutingTree.{end_of, IsRoutingTree}
use Rattle.app_loads.specs.declared.plans.AppNet.{AppNet}

-- a net can need so many keys: at least one, and at most all of 32 bits
pub record IsKeyCount (keys : ℕ) : Type 0 where
  pub some : 1 ≤ keys
  pub few : keys ≤ 4294967296

-- the net has a routing tree, whose root is inside the grid
pub record HasTree (m : Description) (net : AppNet) : Type 0 where
  pub root : IsInside m net.tree.root
  pub tree : IsRoutingTree m net.tree.root net.tree.edges net.targets

-- its root, and the chips at which its edges begin, are inside the grid
pub record HasTreeInside (m : Description) (net : AppNet) : Type 0 where
  pub root : IsInside m net.tree.root
  pub edges : All (λ (e : Edge). IsInside m e.chip) net.tree.edges

abbrev pub chip_places : Description → Option Chip → List ℕ
chip_places m (Some c) = index_of m c ∷ []
chip_places m None = []

-- the index of the chip into which an edge leads
abbrev pub end_places : Description → Edge → List ℕ
end_places m e = chip_places m (end_of m e)

-- the indices of the chips of a net's tree
abbrev pub tree_places : Description → AppNet → List ℕ
tree_places m net = index_of m net.tree.root ∷ flat_map (end_places m) net.tree.edges

-- A list has for each number, as far as it is long, how often a function of items gives it.
abbrev pub AreCounted : {X : Type 0} → (X → ℕ) → List X → List ℕ → Type 0
AreCounted f xs counts = (k n : ℕ) → slice_get counts k ≡ Some n → n ≡ count_by (λ x. f x == k) xs
