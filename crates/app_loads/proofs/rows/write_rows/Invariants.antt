use Rattle.app_loads.proofs.Common.{chip_count, drop, into_iter_items, tables_in, take, ◌≡◌}
use Rattle.app_loads.proofs.Copying.{AreAfter, rows_in}
use Rattle.app_loads.proofs.rows.write_rows.Given as goal

-- the ranges so far have their rows, and the rooms of the others are left
abbrev pub invariant-loop-range : goal.invariant-loop-range
invariant-loop-range l = record {
  copied : AreAfter (chip_count l.machine) (rows_in (tables_in l.lists)) (take l.range-index l.ranges) l.fn.tables l.tables;
  left : into_iter_items l.rooms ≡ drop l.range-index l.fn.rooms.items;
}
