use Rattle.app_loads.proofs.Common.{FillsFrom, map, row_entry, row_of_mark, ◌≡◌}
use Rattle.app_loads.proofs.rows.put_rows.Given as goal

-- the rows so far stand from the place on
abbrev pub invariant-loop-at : goal.invariant-loop-at
invariant-loop-at l = record {
  entries : FillsFrom l.first l.at (row_entry (map row_of_mark l.marks) l.first) l.fn.table l.roomy.entries;
  room : l.roomy.room ≡ l.fn.room;
}
