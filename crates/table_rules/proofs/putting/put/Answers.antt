-- Each way to put a row.
use Rattle.table_rules.proofs.Common.{IfOk-weaker, IsRowAdded, PassesDown, fails, in_pieces, left_out, map, piece_row, subst, sym, whole, whole_row, with_row, with_rows, ◌≡◌}
use Rattle.table_rules.proofs.Turns.{no_pieces, some_pieces, stands, stands_not}
use Rattle.table_rules.proofs.putting.put.Goals as goal

pub returns-then-is_empty-clause-put : goal.returns-then-is_empty-clause-put
returns-then-is_empty-clause-put c = left_out (no_pieces c.args.pieces.now c.if-is_empty.ensures)

pub returns-then-passes_down-clause-put : goal.returns-then-passes_down-clause-put
returns-then-passes_down-clause-put c =
    IfOk-weaker c.put_whole.result
    (λ _. c.put_whole.new.rows.items ≡ with_row c.args.rows.now.items (whole_row c.args.given c.args.pieces.now))
    (λ _. IsRowAdded c.args.rows.now.items c.args.given c.args.pieces.now c.put_whole.new.rows.items)
    (λ u is. subst (IsRowAdded c.args.rows.now.items c.args.given c.args.pieces.now) (sym is)
    (whole (some_pieces c.args.pieces.now c.if-is_empty.ensures)
    (stands c.args.rows.now.items c.deref-2.result.now c.deref.result.now c.args.given.block c.place_for-place.result c.generality.result
    c.deref-2.ensures.value c.deref.ensures.value c.generality.ensures.value c.place_for-place.ensures.value (c.passes_down.ensures.0 c.if-passes_down.true))))
    c.put_whole.ensures

pub returns-else-passes_down-clause-put : goal.returns-else-passes_down-clause-put
returns-else-passes_down-clause-put c =
    IfOk-weaker c.put_pieces.result
    (λ _. c.put_pieces.new.rows.items ≡ with_rows c.args.rows.now.items (map (piece_row c.args.given) c.args.pieces.now))
    (λ _. IsRowAdded c.args.rows.now.items c.args.given c.args.pieces.now c.put_pieces.new.rows.items)
    (λ u is. subst (IsRowAdded c.args.rows.now.items c.args.given c.args.pieces.now) (sym is)
    (in_pieces (some_pieces c.args.pieces.now c.if-is_empty.ensures)
    (stands_not c.args.rows.now.items c.deref-2.result.now c.deref.result.now c.args.given.block c.place_for-place.result c.generality.result
    c.deref-2.ensures.value c.deref.ensures.value c.generality.ensures.value c.place_for-place.ensures.value
    (fails (PassesDown c.deref-2.result.now c.args.given.block c.place_for-place.result) c.passes_down.result c.passes_down.ensures c.if-passes_down.false))))
    c.put_pieces.ensures.put
