use Rattle.par_compile.proofs.Common.{GivesFinal, into_iter_items}
use Rattle.par_compile.proofs.Working.{AreGiven}
use Rattle.par_compile.proofs.workers.finals_of.Given as goal

-- the work so far gives the final tables so far
abbrev pub invariant-loop-work : goal.invariant-loop-work
invariant-loop-work l =
    goal.iterator-loop-work.can_next l.work-iterator
    × goal.iterator-loop-work.is_finite l.work-iterator
    × AreGiven (GivesFinal l.target) l.fn.works.items (into_iter_items l.work-iterator) l.finals
