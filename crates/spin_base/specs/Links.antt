-- The links of a chip: their numbers, and which lead against each other.
use Rattle.std.specs.Prelude.{ℕ, List, [], ◌∷◌, slice_index_or}
use Rattle.spin_base.specs.declared.chips.Dir.{Dir}
use Rattle.spin_base.specs.declared.chips.Dir.TheVariants.{East, NorthEast, North, West, SouthWest, South}
use Rattle.spin_base.specs.declared.chips.Port.{Port}
use Rattle.spin_base.specs.declared.chips.Port.TheVariants.{Link, Local}

-- The links are numbered from East anticlockwise (SpiNNaker datasheet).
abbrev pub dir_number : Dir → ℕ
dir_number East = 0
dir_number NorthEast = 1
dir_number North = 2
dir_number West = 3
dir_number SouthWest = 4
dir_number South = 5

-- the six links in the order of their numbers
abbrev pub all_dirs : List Dir
all_dirs = East ∷ NorthEast ∷ North ∷ West ∷ SouthWest ∷ South ∷ []

-- the link of a number below 6
abbrev pub dir_at : ℕ → Dir
dir_at n = slice_index_or all_dirs n East

-- A packet that went out by a link comes in by the link that leads the other way (SpiNNaker datasheet).
abbrev pub opposite_of : Dir → Dir
opposite_of East = West
opposite_of NorthEast = SouthWest
opposite_of North = South
opposite_of West = East
opposite_of SouthWest = NorthEast
opposite_of South = North

-- Ports are numbered as their links, and the port of the chip's own cores is 6 (this project's own).
abbrev pub port_number : Port → ℕ
port_number (Link d) = dir_number d
port_number Local = 6
