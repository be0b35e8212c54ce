use Rattle.run_report.proofs.Common.{chip_of, chip_waits, flat_map, map, range_with_len, ◌++◌, ◌≡◌}
use Rattle.run_report.proofs.waits.put_chips.Given as goal

abbrev pub invariant-loop-index : goal.invariant-loop-index
invariant-loop-index l = l.waiting.items ≡ l.fn.waiting.items ++ flat_map (chip_waits l.mesh) (map (chip_of l.mesh.setup.machine) (range_with_len 0 l.index))
