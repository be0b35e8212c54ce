-- What a router does with a key.
use Rattle.std.specs.Prelude.{◌==◌, ℕ, Bool, List, find, bit_and}
use Rattle.std.specs.Option.{option_map_or}
use Rattle.std.proofs.Common.{lit<}
use Rattle.spin_base.specs.declared.chips.Dir.{Dir}
use Rattle.spin_base.specs.declared.chips.Port.{Port}
use Rattle.spin_base.specs.declared.chips.Port.TheVariants.{Link, Local}
use Rattle.spin_base.specs.declared.chips.Dir.TheVariants.{East, NorthEast, North, West, SouthWest, South}
use Rattle.spin_base.specs.declared.routes.Route.{Route}
use Rattle.spin_base.specs.declared.blocks.Entry.{Entry}
use Rattle.spin_base.specs.Outputs.{nothing}

-- An entry matches a key where the key's bits under the mask are the entry's key (SpiNNaker datasheet).
abbrev pub matches : Entry → ℕ → Bool
matches e key = bit_and key e.mask == e.key

-- the route that has the link opposite an arrival link, and no other output
abbrev pub straight_on : Dir → Route
straight_on East = record { bits = 8; within = lit< tt }
straight_on NorthEast = record { bits = 16; within = lit< tt }
straight_on North = record { bits = 32; within = lit< tt }
straight_on West = record { bits = 1; within = lit< tt }
straight_on SouthWest = record { bits = 2; within = lit< tt }
straight_on South = record { bits = 4; within = lit< tt }

-- A packet that matches no entry goes on by the link opposite the one by which it came (default routing,
-- SpiNNaker datasheet). One that a core of the chip sent goes nowhere (this project's own).
abbrev pub default_route : Port → Route
default_route (Link d) = straight_on d
default_route Local = nothing

-- The entry of the least place that matches decides (SpiNNaker datasheet), and where none does the default route.
abbrev pub lookup : List Entry → ℕ → Port → Route
lookup entries key port =
    option_map_or (λ e. e.route) (find (λ (e : Entry). matches e key) entries) (default_route port)
