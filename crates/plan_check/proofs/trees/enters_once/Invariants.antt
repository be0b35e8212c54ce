-- The edges that are left enter anew exactly where all enter once.
use Rattle.plan_check.proofs.Common.{◌≡◌}
use Rattle.plan_check.proofs.Marking.{GoesOn}
use Rattle.plan_check.proofs.trees.enters_once.Given as goal

abbrev pub invariant-loop-edge : goal.invariant-loop-edge
invariant-loop-edge l = (l.entered.machine.now ≡ l.rooted.machine.now) × GoesOn l.rooted.machine.now l.rooted.root l.edges l.edge-index l.entered.items.items
