use Rattle.net_tables.proofs.Common.{AllZip-more, arith}
use Rattle.net_tables.proofs.rows.tables_of.Goals as goal

pub loop-list-preserved : goal.loop-list-preserved
loop-list-preserved c = grind (arith, AllZip-more)
