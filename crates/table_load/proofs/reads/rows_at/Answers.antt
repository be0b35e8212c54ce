use Rattle.std.proofs.Common.{arith}
use Rattle.std.proofs.lemmas.Result.{err_from_is_err_and}
use Rattle.table_load.specs.Reading.{read_rows}
use Rattle.table_load.proofs.Rows.{goes_on, ends, is_done}
use Rattle.table_load.proofs.reads.rows_at.Goals as goal

pub returns-in_err-row : goal.returns-in_err-row
returns-in_err-row c = grind (arith, err_from_is_err_and, ends)

pub loop-preserved : goal.loop-preserved
loop-preserved c =
    rw c.in_ok-push.ensures.items
    (goes_on c.loop.rows.items c.args.count c.loop.counter c.loop.rest.now c.in_ok-row.row c.in_ok-row.after.now (read_rows c.args.count c.args.bytes.now) c.loop-test.true c.in_ok-row.ensures c.loop.invariant)

pub returns : goal.returns
returns c = is_done c.loop.rows.items c.args.count c.loop.counter c.loop.rest.now (read_rows c.args.count c.args.bytes.now) c.loop-test.false c.loop.invariant
