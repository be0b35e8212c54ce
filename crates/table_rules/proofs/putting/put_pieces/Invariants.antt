-- With the pieces that are left, the rows are those that all give; and a piece is one row.
use Rattle.table_rules.proofs.Common.{drop, length, map, piece_row, with_rows, ◌+◌, ◌≡◌, ◌≤◌}
use Rattle.table_rules.proofs.putting.put_pieces.Given as goal

abbrev pub invariant-loop-piece : goal.invariant-loop-piece
invariant-loop-piece l = record {
  left : with_rows l.rows.items (map (piece_row l.given) (drop l.piece-index l.pieces)) ≡ with_rows l.fn.rows.items (map (piece_row l.given) l.pieces);
  few : length l.rows.items ≤ length l.fn.rows.items + l.piece-index;
}
