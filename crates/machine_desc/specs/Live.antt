-- Where each link leads, and which chips, links and cores are live.
use Rattle.std.specs.Prelude.{◌≡◌, ℕ, ◌+◌, ◌-◌, ◌*◌, ◌/◌, ◌%◌, ◌==◌, Bool, true, false, ◌&&◌, ◌||◌, not, nat_lt, nat_le, IsTrue, if◌then◌else◌, Option, Some, None, List, [], ◌∷◌, map, count_by}
use Rattle.std.specs.List.{list_any, range_with_len}
use Rattle.spin_base.specs.declared.chips.Chip.{Chip}
use Rattle.spin_base.specs.declared.chips.Spot.{Spot}
use Rattle.spin_base.specs.declared.chips.Dir.{Dir}
use Rattle.spin_base.specs.declared.chips.Dir.TheVariants.{East, NorthEast, North, West, SouthWest, South}
use Rattle.spin_base.specs.Equality.{chip_eq, spot_eq}
use Rattle.spin_base.specs.Links.{opposite_of, dir_at}
use Rattle.machine_desc.specs.declared.steps.Step.{Step}
use Rattle.machine_desc.specs.declared.steps.Step.TheVariants.{Back, Stay, Ahead}
use Rattle.machine_desc.specs.Description.{Description}
use Rattle.machine_desc.specs.Equality.{edge_eq}

-- Links are numbered from East anticlockwise: East leads to (+1, 0), North-East to (+1, +1), North to (0, +1), and
-- West, South-West and South lead the other way (SpiNNaker datasheet).
abbrev pub x_step : Dir → Step
x_step East = Ahead
x_step NorthEast = Ahead
x_step North = Stay
x_step West = Back
x_step SouthWest = Back
x_step South = Stay

abbrev pub y_step : Dir → Step
y_step East = Stay
y_step NorthEast = Ahead
y_step North = Ahead
y_step West = Stay
y_step SouthWest = Back
y_step South = Back

-- The coordinate after a step along an axis of so many places: modulo that number where the grid is closed to a torus,
-- else absent where it lies outside (SpiNNaker datasheet).
abbrev pub stepped : Bool → ℕ → Step → ℕ → Option ℕ
stepped wrap places Stay n = Some n
stepped true places Ahead n = Some ((n + 1) % places)
stepped true places Back n = Some ((n + (places - 1)) % places)
stepped false places Ahead n = if nat_lt (n + 1) places then Some (n + 1) else None
stepped false places Back n = if n == 0 then None else Some (n - 1)

abbrev pub chip_at : Option ℕ → Option ℕ → Option Chip
chip_at (Some x) (Some y) = Some (record { x = x; y = y })
chip_at (Some x) None = None
chip_at None y = None

-- the chip, where it is another than c
abbrev pub other_than : Chip → Option Chip → Option Chip
other_than c None = None
other_than c (Some e) = if chip_eq c e then None else Some e

-- A link leads to the chip's own place plus the link's step. It leads nowhere where that lies outside the grid, or is
-- the chip itself (this project's own, for a torus of width or height 1).
abbrev pub far_of : Description → Chip → Dir → Option Chip
far_of m c d = other_than c (chip_at (stepped m.wrap m.width (x_step d) c.x) (stepped m.wrap m.height (y_step d) c.y))

abbrev pub is_inside : Description → Chip → Bool
is_inside m c = nat_lt c.x m.width && nat_lt c.y m.height

-- A chip is live where it is inside the grid and not listed dead.
abbrev pub is_live_chip : Description → Chip → Bool
is_live_chip m c = is_inside m c && not (list_any (chip_eq c) m.dead_chips)

-- whether the link is listed dead, as this end numbers it
abbrev pub is_listed : Description → Chip → Dir → Bool
is_listed m c d = list_any (edge_eq (record { chip = c; dir = d })) m.dead_links

-- whether the link d of c is live, where it leads to the second chip
abbrev pub is_live_between : Description → Chip → Dir → Option Chip → Bool
is_live_between m c d None = false
is_live_between m c d (Some e) =
    (is_live_chip m c && is_live_chip m e) && (not (is_listed m c d) && not (is_listed m e (opposite_of d)))

-- A link is live where it leads to a chip, both ends are live, and neither end lists it dead.
abbrev pub is_live_link : Description → Chip → Dir → Bool
is_live_link m c d = is_live_between m c d (far_of m c d)

-- A chip has cores 0 to 17, of which core 0 is the monitor (SpiNNaker datasheet; that the monitor takes no vertex is
-- this project's own). A core is usable where its chip is live, it is none but 1 to 17, and it is not listed dead.
abbrev pub is_usable : Description → Spot → Bool
is_usable m s = is_live_chip m s.chip && ((nat_le 1 s.core && nat_le s.core 17) && not (list_any (spot_eq s) m.dead_cores))

-- A device hangs on a link that is not live, of a live chip. Its number on the chip is 18 + d, for link d (this project's own).
abbrev pub is_device_place : Description → Spot → Bool
is_device_place m s =
    is_live_chip m s.chip && ((nat_le 18 s.core && nat_lt s.core 24) && not (is_live_link m s.chip (dir_at (s.core - 18))))

-- A site is a spot where a vertex can stand: a usable core, or the place of a device.
abbrev pub is_site : Description → Spot → Bool
is_site m s = is_usable m s || is_device_place m s

abbrev pub IsInside : Description → Chip → Type 0
IsInside m c = IsTrue (is_inside m c)

abbrev pub IsLiveChip : Description → Chip → Type 0
IsLiveChip m c = IsTrue (is_live_chip m c)

abbrev pub IsLiveLink : Description → Chip → Dir → Type 0
IsLiveLink m c d = IsTrue (is_live_link m c d)

abbrev pub IsUsable : Description → Spot → Type 0
IsUsable m s = IsTrue (is_usable m s)

abbrev pub IsSite : Description → Spot → Type 0
IsSite m s = IsTrue (is_site m s)

-- some live link leads from the first chip to the second
abbrev pub LeadsTo : Description → Chip → Chip → Type 0
LeadsTo m a b = (d : Dir) × IsLiveLink m a d × (far_of m a d ≡ Some b)

-- A live walk is a list of chips, each reached from the one before by a live link.
abbrev pub IsLiveWalk : Description → List Chip → Type 0
IsLiveWalk m [] = Unit {0}
IsLiveWalk m (a ∷ []) = Unit {0}
IsLiveWalk m (a ∷ (b ∷ cs)) = LeadsTo m a b × IsLiveWalk m (b ∷ cs)

-- Chips are numbered by x, then y (this project's own).
abbrev pub index_of : Description → Chip → ℕ
index_of m c = c.x * m.height + c.y

-- the chip of an index
abbrev pub chip_of : Description → ℕ → Chip
chip_of m i = record { x = i / m.height; y = i % m.height }

-- the chips of the grid, in the order of their indices
abbrev pub grid_chips : Description → List Chip
grid_chips m = map (chip_of m) (range_with_len 0 (m.width * m.height))

-- the number of live chips
abbrev pub live_count_of : Description → ℕ
live_count_of m = count_by (is_live_chip m) (grid_chips m)
