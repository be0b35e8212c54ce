-- Rows that are cut into too many pieces, with a wall behind them.
use Rattle.table_rules.proofs.Common.{HasTooManyPieces, IsTableMadeOf, MatchOption, Table, [], subst, ◌∙◌}
use Rattle.table_rules.proofs.walling.within_wall.Goals as goal

pub returns-clause-rows : goal.returns-clause-rows
returns-clause-rows c = record {
  long = c.args.given.long;
  route = c.args.given.route;
  free = c.args.given.free;
  many = subst (HasTooManyPieces c.args.room []) (c.as_slice.ensures.value ∙ c.in_ok-walled.ensures)
      (subst (λ o. MatchOption o (HasTooManyPieces c.args.room [] c.as_slice.result.now) (λ (t : Table). IsTableMadeOf c.args.room c.as_slice.result.now t.rows)) c.in-None.is c.in_ok-table.ensures.made);
}
