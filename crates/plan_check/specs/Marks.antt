-- Marks of chips, by which a tree is looked over.
use Rattle.std.specs.Prelude.{◌≡◌, ◌≢◌, ◌⊎◌, ◌↔◌, ◌*◌, ◌<◌, ℕ, Bool, true, false, List, [], length, All, AllPairs, Some, ◌++◌, map, slice_index_or, slice_set}
use Rattle.spin_base.specs.declared.chips.Chip.{Chip}
use Rattle.spin_base.specs.declared.chips.Spot.{Spot}
use Rattle.machine_desc.specs.declared.trees.Edge.{Edge}
use Rattle.machine_desc.specs.Description.{Description}
use Rattle.machine_desc.specs.Live.{IsInside, IsLiveLink, index_of}
use Rattle.machine_desc.specs.RoutingTree.{end_of}
use Rattle.link_detours.specs.Repair.{EdgeStep}
use Rattle.link_detours.specs.Steps.{Steps}

-- no edge, some target, and all targets on the root: the only trees of a root outside the grid
pub record IsAlone (root : Chip) (edges : List Edge) (targets : List Spot) : Type 0 where
  pub no_edge : edges ≡ []
  pub some_target : 0 < length targets
  pub on_root : All (λ s. s.chip ≡ root) targets

-- all edges are live, none leads into the root, and no two lead into one chip
pub record EntersOnce (m : Description) (root : Chip) (edges : List Edge) : Type 0 where
  pub live : All (λ e. IsLiveLink m e.chip e.dir) edges
  pub none_into_root : All (λ e. end_of m e ≢ Some root) edges
  pub one_into_each : AllPairs (λ e f. end_of m e ≢ end_of m f) edges

-- ---- marks of chips, by their indices

abbrev pub mark_at : Description → List Bool → Chip → Bool
mark_at m marks c = slice_index_or marks (index_of m c) false

-- the chip is in the grid and has a mark
abbrev pub IsMarkedChip : Description → List Bool → Chip → Type 0
IsMarkedChip m marks c = IsInside m c × (mark_at m marks c ≡ true)

-- the chips of the grid with marks are those of which this holds
pub record AreMarks (m : Description) (Is : Chip → Type 0) (marks : List Bool) : Type 0 where
  pub long : length marks ≡ m.width * m.height
  pub told : (c : Chip) → IsInside m c → (mark_at m marks c ≡ true) ↔ Is c

-- the edge is live, the chip into which it leads had no mark, and that is the one that was set
pub record EntersAnew (m : Description) (e : Edge) (old new : List Bool) : Type 0 where
  pub live : IsLiveLink m e.chip e.dir
  pub far : Chip
  pub leads : end_of m e ≡ Some far
  pub no_mark : mark_at m old far ≡ false
  pub marked : new ≡ slice_set old (index_of m far) true

-- the edge is not live, or the chip into which it leads had a mark
abbrev pub EntersNone : Description → Edge → List Bool → Type 0
EntersNone m e old = (IsLiveLink m e.chip e.dir → ⊥) ⊎ ((far : Chip) × (end_of m e ≡ Some far) × (mark_at m old far ≡ true))

-- some number of edges leads from the root to the chip
abbrev pub IsReachedChip : Description → List Edge → Chip → Chip → Type 0
IsReachedChip m edges root c = (n : ℕ) × Steps (EdgeStep m edges) n root c

-- the chips where a target stands, and those where an edge begins
abbrev pub going_on : List Edge → List Spot → List Chip
going_on edges targets = map (λ (s : Spot). s.chip) targets ++ map (λ (e : Edge). e.chip) edges
