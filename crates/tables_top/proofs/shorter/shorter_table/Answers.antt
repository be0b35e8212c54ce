-- A shorter table, or the one that was given.
use Rattle.std.proofs.Common.{arith, ◌≡◌, false}
use Rattle.std.proofs.lemmas.Result.{IfOk-weaker}
use Rattle.table_text.specs.declared.writing.ShortTable.{ShortTable}
use Rattle.tables_top.specs.Shorter.{IsShorterTable, short_at}
use Rattle.tables_top.proofs.Tables.{short_kept, short_made}
use Rattle.tables_top.proofs.shorter.shorter_table.Goals as goal

pub returns-in-Some : goal.returns-in-Some
returns-in-Some c =
    IfOk-weaker c.short_table.result (λ (s : ShortTable). s ≡ short_at c.args.given.now.chip c.as_slice-in-Some.result.now false) (IsShorterTable c.args.target c.args.exact c.args.given.now)
    (λ s is. short_made c.args.target c.args.exact c.args.given.now c.as_slice.result.now c.as_slice-in-Some.result.now _ c.in-Some.rows s
    (record { rows = c.in_ok-rows.ensures.rows; routes = c.in_ok-rows.ensures.routes; keys = c.in_ok-rows.ensures.keys; few = c.in_ok-rows.ensures.few }) c.in-Some.is c.as_slice.ensures c.as_slice-in-Some.ensures is)
    c.short_table.ensures

pub returns-in-None : goal.returns-in-None
returns-in-None c = grind (arith, IfOk-weaker, short_kept)
