use Rattle.net_tables.proofs.Common.{AllZip, IsTableOf, take}
use Rattle.net_tables.proofs.rows.tables_of.Given as goal

abbrev pub invariant-loop-list : goal.invariant-loop-list
invariant-loop-list l = AllZip IsTableOf (take l.list-index l.lists) l.tables
