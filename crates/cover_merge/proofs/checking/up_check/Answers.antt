-- The check fails where one place fails it; a merge that is legal on a sound table fails none.
use Rattle.cover_merge.proofs.Common.{arith, insert_place, refl}
use Rattle.cover_merge.proofs.{Answering.up_fails, Answering.up_more, RefineLemmas.none_fails, Legal.up_from_legal}
use Rattle.cover_merge.proofs.checking.up_check.Goals as goal

pub returns-then-not-passes_up-clause-passes : goal.returns-then-not-passes_up-clause-passes
returns-then-not-passes_up-clause-passes c = up_fails _ _ _ c.insert_place-place.ensures _ _ c.loop-s-test.true c.passes_up.ensures c.if-not-passes_up.true

pub returns-then-not-passes_up-clause-legal : goal.returns-then-not-passes_up-clause-legal
returns-then-not-passes_up-clause-legal c = λ sound legal.
    (returns-then-not-passes_up-clause-passes c).1 (up_from_legal c.args.set.rows.now c.args.set.places.now sound c.args.set.inside legal)

pub loop-s-preserved : goal.loop-s-preserved
loop-s-preserved c = up_more _ _ _ c.insert_place-place.ensures _ _ c.loop-s.invariant c.passes_up.ensures c.if-not-passes_up.false

pub returns-clause-passes : goal.returns-clause-passes
returns-clause-passes c =
    let rows = c.args.set.rows.now in
    let places = c.args.set.places.now in
    (λ _. none_fails rows places (insert_place rows places) 0 (omega arith) (λ k from within. c.loop-s.invariant k (omega (arith, within, c.loop-s-test.false))), λ _. refl)
