-- The net is fine at the chips passed.
use Rattle.plan_check.proofs.Common.{IsFineBelow}
use Rattle.plan_check.proofs.verdicts.first_flaw.Given as goal

abbrev pub invariant-loop-index : goal.invariant-loop-index
invariant-loop-index l = IsFineBelow l.tables.grid.machine.now l.tables.grid.image.now l.net l.index
