-- Entries of lists: pairs and triples of whole numbers.
use Rattle.std.specs.Prelude.{ℕ, List, [], ◌∷◌, Option, Some, None, option_map, option_and_then, if◌then◌else◌, ◌==◌, ◌&&◌, nat_lt, nat_le}
use Rattle.serde_json.specs.Data.{Data}
use Rattle.serde_json.specs.Find.{as_array}
use Rattle.spin_base.specs.declared.chips.Chip.{Chip}
use Rattle.spin_base.specs.declared.chips.Spot.{Spot}
use Rattle.spin_base.specs.declared.chips.Dir.{Dir}
use Rattle.spin_base.specs.declared.chips.Dir.TheVariants.{East, NorthEast, North, West, SouthWest, South}
use Rattle.machine_desc.specs.declared.trees.Edge.{Edge}
use Rattle.job_text.specs.declared.faults.JobFault.{JobFault}
use Rattle.job_text.specs.Members.{whole_number, list_of}
use Rattle.job_text.specs.Fields.{typed_faults}

-- a list of exactly two whole numbers
abbrev pub two_of : List Data → Option (ℕ × ℕ)
two_of [] = None
two_of (a ∷ []) = None
two_of (a ∷ (b ∷ [])) = option_and_then (λ x. option_map (λ y. (x, y)) (whole_number b)) (whole_number a)
two_of (a ∷ (b ∷ (c ∷ ds))) = None

abbrev pub pair_of : Data → Option (ℕ × ℕ)
pair_of d = option_and_then (λ items. two_of (list_of items)) (as_array d)

-- a list of exactly three whole numbers
abbrev pub three_of : List Data → Option (ℕ × ℕ × ℕ)
three_of [] = None
three_of (a ∷ []) = None
three_of (a ∷ (b ∷ [])) = None
three_of (a ∷ (b ∷ (c ∷ []))) =
    option_and_then (λ x. option_and_then (λ y. option_map (λ z. (x, y, z)) (whole_number c)) (whole_number b)) (whole_number a)
three_of (a ∷ (b ∷ (c ∷ (d ∷ ds)))) = None

abbrev pub triple_of : Data → Option (ℕ × ℕ × ℕ)
triple_of d = option_and_then (λ items. three_of (list_of items)) (as_array d)

-- the chip that a pair names
abbrev pub chip_of_numbers : ℕ → ℕ → Chip
chip_of_numbers x y = record { x = x; y = y }

-- The link of a number: the links are numbered from East anticlockwise (SpiNNaker datasheet).
abbrev pub link_of : ℕ → Dir
link_of n = if n == 0 then East else (if n == 1 then NorthEast else (if n == 2 then North else (if n == 3 then West else (if n == 4 then SouthWest else South))))

-- A chip is [x,y], with x and y inside a grid.
unfoldable pub chip_faults : ℕ → ℕ → List ℕ → Data → List JobFault
chip_faults width height path d = typed_faults (λ p. nat_lt p.0 width && nat_lt p.1 height) path (pair_of d)

abbrev pub chip_from : Option (ℕ × ℕ) → Chip
chip_from None = chip_of_numbers 0 0
chip_from (Some p) = chip_of_numbers p.0 p.1

unfoldable pub chip_value : Data → Chip
chip_value d = chip_from (pair_of d)

-- A chip inside a grid, and a number up to the greatest.
unfoldable pub numbered_faults : ℕ → ℕ → ℕ → List ℕ → Data → List JobFault
numbered_faults width height most path d =
    typed_faults (λ p. nat_lt p.0 width && nat_lt p.1 height && nat_le p.2 most) path (triple_of d)

-- A core is [x,y,p]: a chip inside a grid, and a core 0 to 17.
unfoldable pub core_faults : ℕ → ℕ → List ℕ → Data → List JobFault
core_faults width height = numbered_faults width height 17

abbrev pub core_from : Option (ℕ × ℕ × ℕ) → Spot
core_from None = record { chip = chip_of_numbers 0 0; core = 0 }
core_from (Some p) = record { chip = chip_of_numbers p.0 p.1; core = p.2 }

unfoldable pub core_value : Data → Spot
core_value d = core_from (triple_of d)

-- A link is [x,y,d]: a chip inside a grid, and the number of one of its links.
unfoldable pub link_faults : ℕ → ℕ → List ℕ → Data → List JobFault
link_faults width height = numbered_faults width height 5

abbrev pub link_from : Option (ℕ × ℕ × ℕ) → Edge
link_from None = record { chip = chip_of_numbers 0 0; dir = link_of 0 }
link_from (Some p) = record { chip = chip_of_numbers p.0 p.1; dir = link_of p.2 }

unfoldable pub link_value : Data → Edge
link_value d = link_from (triple_of d)
