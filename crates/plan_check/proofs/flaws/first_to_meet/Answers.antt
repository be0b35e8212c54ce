use Rattle.plan_check.proofs.Common.{arith}
use Rattle.plan_check.proofs.Meeting.{first_here, none_more, none_at_all}
use Rattle.plan_check.proofs.flaws.first_to_meet.Goals as goal

pub returns-then-meets : goal.returns-then-meets
returns-then-meets c = first_here _ _ _ _ _ c.loop-place-test.true c.index-entries-place.is c.meets.ensures c.if-meets.true c.loop-place.invariant

pub loop-place-preserved : goal.loop-place-preserved
loop-place-preserved c = grind (arith, none_more)

pub returns : goal.returns
returns c = none_at_all c.args.block c.args.rows.entries.now c.loop-place.place c.loop-place-test.false c.loop-place.invariant
