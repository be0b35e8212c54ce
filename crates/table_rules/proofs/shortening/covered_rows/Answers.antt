-- The rows that are left of the covered table, and its joined pieces, say what the rows say.
use Rattle.table_rules.proofs.Common.{IsShortFrom, IsShortenedTo, KeepsRoutes, ap, arith, no_shorter, pieces_of, shorter, subst, sym, ◌∙◌, ◌≡◌}
use Rattle.table_rules.proofs.{Faithful.keeps_itself, Faithful.made_is_sound, Keeping.short_keeps, Turns.is_short_from, shortening.covered_rows.Goals.After-len}
use Rattle.table_rules.proofs.shortening.covered_rows.Goals as goal

pub cover-requires-clause-sound : goal.cover-requires-clause-sound
cover-requires-clause-sound c = made_is_sound c.args.room c.args.given.now c.args.table.rows c.requires.made

pieces_are : (c : After-len) → c.as_slice-all.result.now ≡ pieces_of c.args.table.rows
pieces_are c = c.as_slice-all.ensures.value ∙ (c.in_ok-pieces.ensures ∙ ap pieces_of c.as_slice.ensures)

short_from : (c : After-len) → IsShortFrom c.args.target c.args.room c.args.given.now c.in_ok-shorter.shorter
short_from c = grind (arith, pieces_are c, is_short_from)

pub returns-then-len-given-clause-rows : goal.returns-then-len-given-clause-rows
returns-then-len-given-clause-rows c = shorter c.in_ok-shorter.shorter (short_from (goal.at.returns-then-len-given-clause-rows c).After-len) (omega arith)

pub returns-then-len-given-clause-routes : goal.returns-then-len-given-clause-routes
returns-then-len-given-clause-routes c =
    short_keeps c.args.room c.args.given.now c.args.table.rows c.in_ok-covered.covered.table.rows c.requires.made c.in_ok-covered.ensures.sound c.in_ok-covered.ensures.serves
    c.args.target c.as_slice-covering.result.now c.as_slice-all.result.now c.in_ok-left.left c.in_ok-shorter.shorter c.as_slice-covering.ensures c.in_ok-left.ensures
    (pieces_are (goal.at.returns-then-len-given-clause-routes c).After-len) c.in_ok-shorter.ensures

pub returns-clause-rows : goal.returns-clause-rows
returns-clause-rows c =
    subst (IsShortenedTo c.args.target c.args.room c.args.given.now) (sym c.in_ok-same.ensures)
    (no_shorter c.in_ok-shorter.shorter (short_from (goal.at.returns-clause-rows c).After-len) (omega arith))

pub returns-clause-routes : goal.returns-clause-routes
returns-clause-routes c = subst (KeepsRoutes c.args.given.now) (sym c.in_ok-same.ensures) (keeps_itself c.args.given.now)
