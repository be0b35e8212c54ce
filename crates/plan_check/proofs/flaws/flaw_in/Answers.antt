use Rattle.plan_check.proofs.Common.{arith, slice_get_within}
use Rattle.plan_check.proofs.Meeting.{amiss_by_default, amiss_by_row, amiss_by_split}
use Rattle.plan_check.proofs.flaws.flaw_in.Goals as goal

pub returns-in-None : goal.returns-in-None
returns-in-None c = grind (arith, amiss_by_default)

pub returns-then-not-lies_inside : goal.returns-then-not-lies_inside
returns-then-not-lies_inside c = amiss_by_split _ _ _ c.in-Some.ensures.0 _ _ c.in-Some.ensures.1 c.index-entries-place.is c.lies_inside.ensures c.if-not-lies_inside.true

pub returns-else-not-lies_inside : goal.returns-else-not-lies_inside
returns-else-not-lies_inside c =
    amiss_by_row _ _ _ _ _ c.in-Some.ensures.0 _ _ _ c.in-Some.ensures.1 c.index-entries-place.is c.lies_inside.ensures c.if-not-lies_inside.false c.flaw_by-in-Some.ensures

pub invariant_of-valid : goal.invariant_of-valid
invariant_of-valid c = grind (arith, slice_get_within c.args.rows.entries.now c.in-Some.place c.in-Some.ensures.0 c.in-Some.ensures.1.there)
