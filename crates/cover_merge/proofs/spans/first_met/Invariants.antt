-- The block meets no alias in a span that was passed.
use Rattle.cover_merge.proofs.Common.{IsFreeUpTo, ◌*◌}
use Rattle.cover_merge.proofs.spans.first_met.Given as goal

abbrev pub invariant-loop-k : goal.invariant-loop-k
invariant-loop-k l = IsFreeUpTo l.block l.aliases 0 (l.k * 32)
