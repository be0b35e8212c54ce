-- The block meets no alias that was passed.
use Rattle.cover_merge.proofs.Common.{IsFreeUpTo}
use Rattle.cover_merge.proofs.spans.first_between.Given as goal

abbrev pub invariant-loop-i : goal.invariant-loop-i
invariant-loop-i l = IsFreeUpTo l.block l.aliases l.from l.i
