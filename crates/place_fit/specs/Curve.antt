-- The order in which chips are filled (this project's own; the curve is Hilbert's).
use Rattle.std.specs.Prelude.{zero, suc, ◌≡◌, ℕ, ◌+◌, ◌-◌, ◌*◌, ◌^◌, ◌≤◌, List, [], ◌∷◌, ◌++◌, map, filter}
use Rattle.spin_base.specs.declared.chips.Chip.{Chip}
use Rattle.machine_desc.specs.Description.{Description}
use Rattle.machine_desc.specs.Live.{is_live_chip}

-- a chip with its coordinates swapped
abbrev pub swapped : Chip → Chip
swapped c = record { x = c.y; y = c.x }

-- a chip moved up
abbrev pub raised : ℕ → Chip → Chip
raised up c = record { x = c.x; y = c.y + up }

-- a chip moved as far to the right as up
abbrev pub moved : ℕ → Chip → Chip
moved far c = record { x = c.x + far; y = c.y + far }

-- a chip of a square of that side, turned and mirrored into the square to the right of it
abbrev pub turned : ℕ → Chip → Chip
turned side c = record { x = 2 * side - 1 - c.y; y = side - 1 - c.x }

-- The curve through a square of twice the side goes through its four quarters: the lower left one with x and y swapped,
-- the upper left one, the upper right one, and the lower right one turned, so that it ends below.
abbrev pub four_quarters : ℕ → List Chip → List Chip
four_quarters side chips =
    map swapped chips ++ (map (raised side) chips ++ (map (moved side) chips ++ map (turned side) chips))

-- The curve of level k goes through all chips of a square of side 2^k, each once.
unfoldable pub hilbert : ℕ → List Chip
hilbert zero = record { x = 0; y = 0 } ∷ []
hilbert (suc k) = four_quarters (2 ^ k) (hilbert k)

-- the least level whose square holds the machine's grid
pub record IsCurveLevel (m : Description) (k : ℕ) : Type 0 where
  pub wide : m.width ≤ 2 ^ k
  pub high : m.height ≤ 2 ^ k
  pub least : (j : ℕ) → m.width ≤ 2 ^ j → m.height ≤ 2 ^ j → k ≤ j

-- The chip order of a machine is the curve of that level, without the chips that are not live.
pub record IsChipOrder (m : Description) (chips : List Chip) : Type 0 where
  pub level : ℕ
  pub is_level : IsCurveLevel m level
  pub live : chips ≡ filter (is_live_chip m) (hilbert level)
