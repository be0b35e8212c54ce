-- The quarters of a square, as the private functions name them, and the place of a chip on the curve.
use Rattle.std.specs.Prelude.{ℕ, ◌+◌, ◌-◌, ◌*◌, ◌^◌, nat_lt, if◌then◌else◌, zero, suc}
use Rattle.spin_base.specs.declared.chips.Chip.{Chip}
use Rattle.place_fit.specs.declared.curves.Quarter.{Quarter}
use Rattle.place_fit.specs.declared.curves.Quarter.TheVariants.{LowerLeft, UpperLeft, UpperRight, LowerRight}
use Rattle.place_fit.specs.Curve.{swapped, raised, moved, turned}

-- a chip of a square of that side, as it stands in a quarter of the square of twice the side
abbrev pub in_quarter : Quarter → ℕ → Chip → Chip
in_quarter LowerLeft side c = swapped c
in_quarter UpperLeft side c = raised side c
in_quarter UpperRight side c = moved side c
in_quarter LowerRight side c = turned side c

-- back from the fourth quarter
abbrev pub turned_back : ℕ → Chip → Chip
turned_back side c = record { x = side - 1 - c.y; y = 2 * side - 1 - c.x }

-- back from the second quarter
abbrev pub lowered : ℕ → Chip → Chip
lowered down c = record { x = c.x; y = c.y - down }

-- back from the third quarter
abbrev pub moved_back : ℕ → Chip → Chip
moved_back far c = record { x = c.x - far; y = c.y - far }

-- the place of a chip on the curve of a level
unfoldable pub curve_place : ℕ → Chip → ℕ
curve_place zero c = 0
curve_place (suc k) c =
    if nat_lt c.x (2 ^ k)
    then (if nat_lt c.y (2 ^ k) then curve_place k (swapped c) else (2 ^ k * 2 ^ k + curve_place k (lowered (2 ^ k) c)))
    else (if nat_lt c.y (2 ^ k) then (3 * (2 ^ k * 2 ^ k) + curve_place k (turned_back (2 ^ k) c)) else (2 * (2 ^ k * 2 ^ k) + curve_place k (moved_back (2 ^ k) c)))
