-- A mesh with deliveries that came before its own (this project's own).
use Rattle.std.specs.Prelude.{◌++◌, List}
use Rattle.spin_base.specs.declared.copies.Delivery.{Delivery}
use Rattle.mesh_core.specs.State.{State}

abbrev pub with_earlier : List Delivery → State → State
with_earlier deliveries s = record s { delivered = deliveries ++ s.delivered }
