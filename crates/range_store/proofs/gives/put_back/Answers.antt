use Rattle.range_store.proofs.Common.{AreRuns, rules, subst, sym}
use Rattle.range_store.proofs.GiveLemmas.{arm_none, arm_right, arm_left, arm_both, right_end, left_end, inserted}
use Rattle.range_store.proofs.gives.put_back.Goals as goal

pub invariant_of-list : goal.invariant_of-list
invariant_of-list c = record { runs = subst (AreRuns 0 4294967296) (sym c.as_slice.ensures.value) c.requires }

pub returns-in-None-None-clause-put : goal.returns-in-None-None-clause-put
returns-in-None-None-clause-put c room taken n runs within =
    rw (inserted _ _ _ (c.insert.ensures.succeeds room) c.insert.ensures.items)
    (arm_none c.args.span.some within runs c.as_slice.ensures.value c.neighbours-at.ensures taken c.in-None-None.is-0 c.in-None-None.is-1)

pub returns-in-None-Some-clause-put : goal.returns-in-None-Some-clause-put
returns-in-None-Some-clause-put c room taken n runs within = search (rules, arm_right)

pub returns-in-Some-None-clause-put : goal.returns-in-Some-None-clause-put
returns-in-Some-None-clause-put c room taken n runs within = search (rules, arm_left)

pub returns-in-Some-Some-clause-put : goal.returns-in-Some-Some-clause-put
returns-in-Some-Some-clause-put c room taken n runs within =
    rw c.remove.ensures.items
    (arm_both c.args.span.some within runs c.as_slice.ensures.value c.neighbours-at.ensures taken c.in-Some-Some.is-0 c.in-Some-Some.is-1)

pub overflow_add-left-in-Some-Some : goal.overflow_add-left-in-Some-Some
overflow_add-left-in-Some-Some c = search (rules, left_end, right_end)

pub overflow_add-size : goal.overflow_add-size
overflow_add-size c = search (rules, right_end)

pub index_mut-requires-in-None-Some : goal.index_mut-requires-in-None-Some
index_mut-requires-in-None-Some c = search (rules, right_end)
