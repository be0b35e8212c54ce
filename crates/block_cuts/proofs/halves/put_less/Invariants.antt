-- What was put, with what is still to be cut, is all.
use Rattle.std.proofs.Common.{◌≡◌, ◌++◌, ◌-◌}
use Rattle.block_cuts.specs.Cuts.{less}
use Rattle.block_cuts.proofs.halves.put_less.Given as goal

abbrev pub invariant-loop-n : goal.invariant-loop-n
invariant-loop-n l = l.out.items ++ less (32 - l.n) l.rest l.e ≡ l.fn.out.items ++ less 32 l.fn.p l.fn.e
