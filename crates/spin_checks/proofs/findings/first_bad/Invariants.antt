-- The trees of the nets passed are good.
use Rattle.spin_checks.proofs.Growing.{AreGoodBelow}
use Rattle.spin_checks.proofs.findings.first_bad.Given as goal

abbrev pub invariant-loop-i : goal.invariant-loop-i
invariant-loop-i l = AreGoodBelow l.standing.machine.now l.standing.nets.now l.i
