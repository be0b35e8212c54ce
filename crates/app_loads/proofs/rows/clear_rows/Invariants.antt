use Rattle.app_loads.proofs.Common.{Some, chip_count, unused, take}
use Rattle.app_loads.proofs.Copying.{AreAfter}
use Rattle.app_loads.proofs.rows.clear_rows.Given as goal

-- the entries of the ranges so far are unused
abbrev pub invariant-loop-range : goal.invariant-loop-range
invariant-loop-range l = AreAfter (chip_count l.machine) (λ range j k. Some unused) (take l.range-index l.ranges) l.fn.tables l.tables
