-- The rows before the wall, and the joined pieces, say what the rows say, and no more.
use Rattle.table_rules.proofs.Common.{HasNoNewKeys, IsShortWithin, IsShortenedWithin, KeepsRoutes, ap, arith, others, pieces_of, subst, sym, walled, ◌∙◌, ◌≡◌}
use Rattle.table_rules.specs.Exact.{no_shorter, shorter}
use Rattle.table_rules.proofs.{Faithful.keeps_itself, Faithful.made_is_sound, Keeping.joined_says, Keeping.shorter_has, Walls.few_wall, Walls.is_short_within, Walls.says_within, Walls.sound_wall}
use Rattle.table_rules.proofs.walling.covered_within.Goals.{After-len}
use Rattle.table_rules.proofs.walling.covered_within.Goals as goal

pub cover-requires-clause-sound : goal.cover-requires-clause-sound
cover-requires-clause-sound c = made_is_sound c.args.room (walled c.args.given.rows.now c.args.given.route) c.args.table.rows c.requires.made

pub invariant_of-sound : goal.invariant_of-sound
invariant_of-sound c =
    let covering = c.as_slice-covering.result.now in
    let before = few_wall c.args.given.route.bits c.in_ok-covered.covered.table.rows covering c.rows_before-before.result.now c.as_slice-covering.ensures c.rows_before-before.ensures in
    record {
      few = omega (arith, before, c.in_ok-covered.ensures.few, c.requires.few);
      sound = sound_wall c.args.given.route.bits c.in_ok-covered.covered.table.rows covering c.rows_before-before.result.now c.as_slice-covering.ensures
          c.rows_before-before.ensures c.in_ok-covered.ensures.sound;
    }

all_are : (c : After-len) → c.as_slice-all.result.now ≡ pieces_of c.args.table.rows
all_are c = c.as_slice-all.ensures.value ∙ (c.in_ok-pieces.ensures ∙ ap pieces_of c.as_slice.ensures)

own_are : (c : After-len) → c.as_slice-own.result.now ≡ others c.args.given.route (pieces_of c.args.table.rows)
own_are c = c.as_slice-own.ensures.value ∙ (c.in_ok-rest.ensures ∙ ap (others c.args.given.route) (all_are c))

short_within : (c : After-len) → IsShortWithin c.args.given.target c.args.room c.args.given.rows.now c.in_ok-shorter.shorter
short_within c = grind (arith, own_are c, all_are c, is_short_within)

says : (c : After-len) → KeepsRoutes c.args.given.rows.now c.in_ok-shorter.shorter × HasNoNewKeys c.args.given.rows.now c.in_ok-shorter.shorter
says c =
    shorter_has (λ l. KeepsRoutes c.args.given.rows.now l × HasNoNewKeys c.args.given.rows.now l)
    c.args.given.target c.as_slice-own.result.now c.as_slice-all.result.now c.in_ok-left.left c.in_ok-shorter.shorter c.in_ok-shorter.ensures
    (says_within c.args.given.target c.args.room c.args.given.rows.now c.args.given.route c.args.table.rows c.in_ok-covered.covered.table.rows _ c.args.given.long c.args.given.free
    c.requires.made c.in_ok-covered.ensures.covered
    c.as_slice-covering.result.now c.rows_before-before.result.now c.in_ok-left.left c.as_slice-covering.ensures c.rows_before-before.ensures c.in_ok-left.ensures
    c.in_ok-covered.ensures.sound c.in_ok-covered.ensures.serves)
    (λ joined are. joined_says c.args.room c.args.given.rows.now c.args.given.route c.args.table.rows c.requires.made c.as_slice-own.result.now c.as_slice-all.result.now joined
    (own_are c) (all_are c) are c.args.given.free)

pub returns-then-len-rows-clause-rows : goal.returns-then-len-rows-clause-rows
returns-then-len-rows-clause-rows c = shorter c.in_ok-shorter.shorter (short_within (goal.at.returns-then-len-rows-clause-rows c).After-len) (omega arith)

pub returns-then-len-rows-clause-routes : goal.returns-then-len-rows-clause-routes
returns-then-len-rows-clause-routes c = (says (goal.at.returns-then-len-rows-clause-routes c).After-len).0

pub returns-then-len-rows-clause-keys : goal.returns-then-len-rows-clause-keys
returns-then-len-rows-clause-keys c = (says (goal.at.returns-then-len-rows-clause-keys c).After-len).1

pub returns-clause-rows : goal.returns-clause-rows
returns-clause-rows c =
    subst (IsShortenedWithin c.args.given.target c.args.room c.args.given.rows.now) (sym c.in_ok-same.ensures)
    (no_shorter c.in_ok-shorter.shorter (short_within (goal.at.returns-clause-rows c).After-len) (omega arith))

pub returns-clause-routes : goal.returns-clause-routes
returns-clause-routes c = subst (KeepsRoutes c.args.given.rows.now) (sym c.in_ok-same.ensures) (keeps_itself c.args.given.rows.now)
