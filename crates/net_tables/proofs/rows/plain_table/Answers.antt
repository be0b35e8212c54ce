use Rattle.net_tables.proofs.Common.{arith}
use Rattle.net_tables.proofs.{Ordering.table_sorted, Whole.as_many_rows, Whole.sound_table}
use Rattle.net_tables.proofs.rows.plain_table.Goals as goal

pub returns-clause-table : goal.returns-clause-table
returns-clause-table c = grind (arith, table_sorted)

pub returns-clause-few : goal.returns-clause-few
returns-clause-few c = as_many_rows c.args.marks.now (record { rows = c.in_ok-rows.rows }) (returns-clause-table c)

pub returns-clause-sound : goal.returns-clause-sound
returns-clause-sound c = sound_table c.args.marks.now (record { rows = c.in_ok-rows.rows }) (returns-clause-table c)
