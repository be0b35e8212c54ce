use Rattle.par_compile.proofs.Common.{All, AreCoverable, IsStillPlain, into_iter_items}
use Rattle.par_compile.proofs.Working.{AreGiven}
use Rattle.par_compile.proofs.workers.works_of.Given as goal

-- the work so far is of the first chips, and the tables of the others can be covered too
abbrev pub invariant-loop-marks : goal.invariant-loop-marks
invariant-loop-marks l =
    goal.iterator-loop-marks.can_next l.marks-iterator
    × goal.iterator-loop-marks.is_finite l.marks-iterator
    × AreGiven IsStillPlain l.fn.blocks (into_iter_items l.marks-iterator) l.works.items
    × All AreCoverable (into_iter_items l.marks-iterator)
