use Rattle.par_compile.proofs.Common.{tables_from, take, ◌≡◌}
use Rattle.par_compile.proofs.images.image_of.Given as goal

-- the tables of the chips that were read
abbrev pub invariant-loop-i : goal.invariant-loop-i
invariant-loop-i l = l.chips ≡ tables_from l.machine 0 (take l.i l.finals)
