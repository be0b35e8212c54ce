-- A test of equality of edges that computes.
use Rattle.std.specs.Prelude.{Bool, ◌&&◌}
use Rattle.spin_base.specs.Equality.{chip_eq, dir_eq}
use Rattle.machine_desc.specs.declared.trees.Edge.{Edge}

abbrev pub edge_eq : Edge → Edge → Bool
edge_eq a b = chip_eq a.chip b.chip && dir_eq a.dir b.dir
