-- From row to row, what is made of the rest is made of all.
use Rattle.table_rules.proofs.Common.{HasTooManyPieces, IfSome, IsRowAdded, IsTableFrom, Some, ap, arith, cut, drop, length, subst, sym, take, ◌+◌, ◌-◌, ◌∙◌, ◌≡◌, ◌≤◌}
use Rattle.table_rules.proofs.Turns.{blocks_more, more_rows, no_room, rows_all, too_many_later}
use Rattle.table_rules.proofs.making.made_table.Goals as goal

pub returns-in_default-clause-made : goal.returns-in_default-clause-made
returns-in_default-clause-made c = grind (arith, no_room)

pub loop-row-preserved : goal.loop-row-preserved
loop-row-preserved c =
    let cuts : Some c.in-Some.pieces ≡ cut c.loop-row.left c.row-item.result.block c.loop-row.blocks.items =
    sym c.in-Some.is ∙ (c.in_ok-pieces.ensures.cut ∙ ap (cut c.loop-row.left c.row-item.result.block) c.as_slice.ensures.value) in
    let few : length c.in-Some.pieces ≤ c.loop-row.left = subst (λ p. IfSome p (λ ps. length ps ≤ c.loop-row.left)) c.in-Some.is c.in_ok-pieces.ensures.few in record {
      blocks = blocks_more c.loop-row.left c.args.given.now c.loop-row.row-index c.loop-row.rows.items c.row-item.result c.loop-row.blocks.items c.loop-row-test.true c.row-item.is c.loop-row.invariant.blocks
          c.push.new.self.items c.in_ok-push.ensures.items;
      goes_on = λ table from. c.loop-row.invariant.goes_on table
          (more_rows c.loop-row.left c.args.given.now c.loop-row.row-index c.loop-row.rows.items c.row-item.result c.loop-row.blocks.items c.loop-row-test.true c.row-item.is c.loop-row.invariant.blocks
          c.in-Some.pieces cuts c.put.new.rows.items table
          (subst (λ ps. IsRowAdded c.loop-row.rows.items c.row-item.result ps c.put.new.rows.items) c.as_slice-in-loop-row.ensures c.in_ok-put.ensures.put)
          (subst (λ n. IsTableFrom (c.loop-row.left - n) (take (c.loop-row.row-index + 1) c.args.given.now) c.put.new.rows.items (drop (c.loop-row.row-index + 1) c.args.given.now) table) c.len-left.ensures from));
      too_many = λ many. c.loop-row.invariant.too_many
          (too_many_later c.loop-row.left c.args.given.now c.loop-row.row-index c.loop-row.rows.items c.row-item.result c.loop-row.blocks.items c.loop-row-test.true c.row-item.is c.loop-row.invariant.blocks
          c.in-Some.pieces cuts
          (subst (λ n. HasTooManyPieces (c.loop-row.left - n) (take (c.loop-row.row-index + 1) c.args.given.now) (drop (c.loop-row.row-index + 1) c.args.given.now)) c.len-left.ensures many));
      few = omega (arith, c.loop-row.invariant.few, c.in_ok-put.ensures.few, ap length c.as_slice-in-loop-row.ensures, c.len-left.ensures, few);
    }

pub returns-clause-made : goal.returns-clause-made
returns-clause-made c = grind (arith, rows_all c.loop-row.left c.args.given.now c.loop-row.row-index c.loop-row.rows.items c.loop-row-test.false)
