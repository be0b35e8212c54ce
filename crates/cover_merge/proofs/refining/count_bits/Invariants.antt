-- What is counted, with the bits that are left, is what was counted and all bits.
use Rattle.cover_merge.proofs.Common.{length, ◌≡◌}
use Rattle.cover_merge.proofs.BitCounts.{AreCounted}
use Rattle.cover_merge.proofs.refining.count_bits.Given as goal

abbrev pub invariant-loop-left : goal.invariant-loop-left
invariant-loop-left l = record { long : length l.counts ≡ 32; counted : AreCounted l.counts l.left l.fn.counts l.bits }

abbrev pub decreases-loop-left : goal.decreases-loop-left
decreases-loop-left l = l.left
