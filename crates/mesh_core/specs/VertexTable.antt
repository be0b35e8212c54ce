-- A table from spots to vertices.
use Rattle.std.specs.Prelude.{◌≡◌, ℕ, ◌+◌, ◌*◌, ◌<◌, List, Option, length, Some, None, slice_get}
use Rattle.spin_base.specs.declared.chips.Spot.{Spot}
use Rattle.machine_desc.specs.Description.{Description}
use Rattle.machine_desc.specs.Live.{index_of, IsInside}
use Rattle.machine_desc.specs.NetsOn.{vertex_at}

-- the place of a spot in the table: 24 a chip, for its cores and the devices on its links
abbrev pub spot_place : Description → Spot → ℕ
spot_place m s = 24 * index_of m s.chip + s.core

-- A spot that a chip of the machine has stands at its place in the table, and any other at none.
abbrev pub IsSpotPlace : Description → Spot → Option ℕ → Type 0
IsSpotPlace m s (Some place) = IsInside m s.chip × (s.core < 24) × (place ≡ spot_place m s)
IsSpotPlace m s None = IsInside m s.chip → s.core < 24 → ⊥

-- The table has, for each of the cores 0 to 17 of each chip and each of its six links, the vertex there.
pub record TellsVertices (m : Description) (spots : List Spot) (table : List (Option ℕ)) : Type 0 where
  pub long : length table ≡ 24 * (m.width * m.height)
  pub told : (s : Spot) → IsInside m s.chip → s.core < 24 → slice_get table (spot_place m s) ≡ Some (vertex_at spots s)
