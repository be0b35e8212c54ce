-- The nets passed have their plans.
use Rattle.spin_checks.proofs.Common.{IsEachNetWith, length, ◌≡◌}
use Rattle.spin_checks.proofs.nets.plans_with.Given as goal

abbrev pub invariant-loop-i : goal.invariant-loop-i
invariant-loop-i l = (length l.plans ≡ l.i) × IsEachNetWith l.handed.spots.now l.handed.nets.now l.handed.blocks.now l.handed.trees.now l.plans
