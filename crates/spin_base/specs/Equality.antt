-- Tests of equality that compute, for definitions that ask which chip, link or output it is.
use Rattle.std.specs.Prelude.{Bool, ◌==◌, ◌&&◌}
use Rattle.spin_base.specs.declared.chips.Chip.{Chip}
use Rattle.spin_base.specs.declared.chips.Dir.{Dir}
use Rattle.spin_base.specs.declared.chips.Port.{Port}
use Rattle.spin_base.specs.declared.chips.Spot.{Spot}
use Rattle.spin_base.specs.declared.routes.Out.{Out}
use Rattle.spin_base.specs.Links.{dir_number, port_number}
use Rattle.spin_base.specs.Outputs.{out_number}

abbrev pub chip_eq : Chip → Chip → Bool
chip_eq a b = (a.x == b.x) && (a.y == b.y)

abbrev pub spot_eq : Spot → Spot → Bool
spot_eq a b = chip_eq a.chip b.chip && (a.core == b.core)

abbrev pub dir_eq : Dir → Dir → Bool
dir_eq a b = dir_number a == dir_number b

abbrev pub port_eq : Port → Port → Bool
port_eq a b = port_number a == port_number b

abbrev pub out_eq : Out → Out → Bool
out_eq a b = out_number a == out_number b
