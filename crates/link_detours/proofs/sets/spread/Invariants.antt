use Rattle.link_detours.proofs.Naming.{Spreading}
use Rattle.link_detours.proofs.sets.spread.Given as goal

-- the columns that are left are as they were, and the others have spread
abbrev pub invariant-loop-left : goal.invariant-loop-left
invariant-loop-left l = Spreading l.front.ground.machine.now l.fn.next l.next l.grown l.left

abbrev pub decreases-loop-left : goal.decreases-loop-left
decreases-loop-left l = l.left
