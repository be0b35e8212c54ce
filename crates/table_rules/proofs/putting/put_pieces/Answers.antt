-- One piece more.
use Rattle.table_rules.proofs.Common.{arith}
use Rattle.table_rules.proofs.Turns.{length_with, piece_turn}
use Rattle.table_rules.proofs.putting.put_pieces.Goals as goal

pub loop-piece-preserved : goal.loop-piece-preserved
loop-piece-preserved c = record {
  left = piece_turn c.args.given c.args.pieces.now c.loop-piece.piece-index c.loop-piece.rows.items _ c.piece-item.result c.in_ok-row.row c.put_row.new.rows.items
      c.loop-piece-test.true c.piece-item.is c.loop-piece.invariant.left c.in_ok-row.ensures c.in_ok-put_row.ensures;
  few = omega (arith, length_with c.loop-piece.rows.items c.put_row.new.rows.items c.in_ok-row.row c.in_ok-put_row.ensures, c.loop-piece.invariant.few);
}
