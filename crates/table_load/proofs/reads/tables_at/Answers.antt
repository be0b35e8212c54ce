use Rattle.std.proofs.Common.{arith, None}
use Rattle.std.proofs.lemmas.Result.{err_from_is_err_and}
use Rattle.table_load.specs.Reading.{read_tables}
use Rattle.table_load.proofs.TableReads.{goes_on, ends, is_done}
use Rattle.table_load.proofs.reads.tables_at.Goals as goal

pub returns-in_err-table : goal.returns-in_err-table
returns-in_err-table c = grind (arith, err_from_is_err_and, ends)

pub loop-preserved : goal.loop-preserved
loop-preserved c =
    rw c.in_ok-push.ensures.items
    (goes_on c.args.width c.args.height c.loop.tables.items c.args.count c.loop.counter c.loop.before c.loop.rest.now (read_tables c.args.width c.args.height c.args.count None c.args.bytes.now)
    c.loop.invariant c.in_ok-table.table c.in_ok-table.after.now c.loop-test.true c.in_ok-table.ensures)

pub returns : goal.returns
returns c =
    is_done c.args.width c.args.height c.loop.tables.items c.args.count c.loop.counter c.loop.before c.loop.rest.now (read_tables c.args.width c.args.height c.args.count None c.args.bytes.now)
    c.loop.invariant c.loop-test.false
