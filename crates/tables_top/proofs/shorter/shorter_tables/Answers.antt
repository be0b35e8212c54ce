-- One table more.
use Rattle.std.proofs.Common.{arith, [], sym, subst}
use Rattle.tables_top.specs.Shorter.{AreShorter, none}
use Rattle.tables_top.proofs.Tables.{tables_all, tables_more}
use Rattle.tables_top.proofs.shorter.shorter_tables.Goals as goal

pub loop-table-init : goal.loop-table-init
loop-table-init c = subst (AreShorter c.args.target c.args.exact []) (sym c.new-shorter.ensures) none

pub loop-table-preserved : goal.loop-table-preserved
loop-table-preserved c = grind (arith, tables_more)

pub returns : goal.returns
returns c = tables_all c.args.target c.args.exact c.args.tables.now c.loop-table.table-index c.loop-table.shorter c.loop-table-test.false c.loop-table.invariant
