use Rattle.net_tables.proofs.Determined.{one_port, one_table, rows_lead}
use Rattle.net_tables.proofs.laws.plain_tables_are_determined.Goals as goal

pub returns : goal.returns
returns c = record { one_port = one_port; one_table = one_table; some_output = rows_lead }
