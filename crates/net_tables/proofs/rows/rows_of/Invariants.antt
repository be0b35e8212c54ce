use Rattle.net_tables.proofs.Common.{map, row_of_mark, take, ◌≡◌}
use Rattle.net_tables.proofs.rows.rows_of.Given as goal

abbrev pub invariant-loop-mark : goal.invariant-loop-mark
invariant-loop-mark l = l.rows ≡ map row_of_mark (take l.mark-index l.marks)
