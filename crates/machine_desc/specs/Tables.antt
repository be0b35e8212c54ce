-- What the tables of a machine tell.
use Rattle.std.specs.Prelude.{◌≡◌, ℕ, ◌+◌, ◌*◌, ◌<◌, Bool, false, List, slice_index_or}
use Rattle.std.specs.List.{list_any}
use Rattle.spin_base.specs.declared.chips.Chip.{Chip}
use Rattle.spin_base.specs.declared.chips.Spot.{Spot}
use Rattle.spin_base.specs.Equality.{chip_eq, spot_eq}
use Rattle.spin_base.specs.Links.{dir_number}
use Rattle.machine_desc.specs.declared.trees.Edge.{Edge}
use Rattle.machine_desc.specs.declared.grids.Grid.{Grid}
use Rattle.machine_desc.specs.Equality.{edge_eq}

-- The table has, at the place of each thing that has one, whether that thing is listed.
abbrev pub TellsListed : {K : Type 0} → (K → Type 0) → (K → ℕ) → (K → K → Bool) → List Bool → List K → Type 0
TellsListed {K} HasPlace place_of same table listed =
    (k : K) → HasPlace k → slice_index_or table (place_of k) false ≡ list_any (same k) listed

abbrev pub IsOn : Grid → Chip → Type 0
IsOn grid c = (c.x < grid.width) × (c.y < grid.height)

abbrev pub chip_place : Grid → Chip → ℕ
chip_place grid c = c.x * grid.height + c.y

-- a core that has a place: one of the cores 0 to 17 of a chip of the grid
abbrev pub IsCoreOn : Grid → Spot → Type 0
IsCoreOn grid s = IsOn grid s.chip × (s.core < 18)

abbrev pub core_place : Grid → Spot → ℕ
core_place grid s = chip_place grid s.chip * 18 + s.core

abbrev pub IsEdgeOn : Grid → Edge → Type 0
IsEdgeOn grid e = IsOn grid e.chip

abbrev pub edge_place : Grid → Edge → ℕ
edge_place grid e = chip_place grid e.chip * 6 + dir_number e.dir

abbrev pub chip_total : Grid → ℕ
chip_total grid = grid.width * grid.height

abbrev pub TellsChips : Grid → List Bool → List Chip → Type 0
TellsChips grid table listed = TellsListed (IsOn grid) (chip_place grid) chip_eq table listed

abbrev pub TellsCores : Grid → List Bool → List Spot → Type 0
TellsCores grid table listed = TellsListed (IsCoreOn grid) (core_place grid) spot_eq table listed

abbrev pub TellsLinks : Grid → List Bool → List Edge → Type 0
TellsLinks grid table listed = TellsListed (IsEdgeOn grid) (edge_place grid) edge_eq table listed
