-- The keys of a report's orders, as the tuples by which the lists are sorted.
use Rattle.std.specs.Prelude.{ℕ}
use Rattle.spin_base.specs.declared.copies.Delivery.{Delivery}
use Rattle.spin_base.specs.declared.copies.DumpRec.{DumpRec}
use Rattle.spin_base.specs.Outputs.{out_number}
use Rattle.mesh_core.specs.declared.places.Place.{Place}
use Rattle.run_report.specs.RunReport.{place_chip, kind_number, part_number}

abbrev pub delivery_numbers : Delivery → ℕ × ℕ
delivery_numbers d = (d.copy.packet, d.vertex)

abbrev pub dump_numbers : DumpRec → ℕ × ℕ × ℕ × ℕ
dump_numbers r = (r.copy.packet, r.chip.x, r.chip.y, out_number r.out)

abbrev pub wait_numbers : ℕ × Place → ℕ × ℕ × ℕ × ℕ × ℕ
wait_numbers w = (w.0, (place_chip w.1).x, (place_chip w.1).y, kind_number w.1, part_number w.1)
