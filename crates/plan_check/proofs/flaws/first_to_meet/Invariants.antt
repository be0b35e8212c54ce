-- No row passed meets the block.
use Rattle.plan_check.proofs.Meeting.{NoneBefore}
use Rattle.plan_check.proofs.flaws.first_to_meet.Given as goal

abbrev pub invariant-loop-place : goal.invariant-loop-place
invariant-loop-place l = NoneBefore l.block l.rows.entries.now l.place
