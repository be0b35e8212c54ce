-- The best of the places passed, the higher first.
use Rattle.cover_merge.proofs.Common.{get_or, ℕ, ◌<◌, ◌≡◌, ◌≤◌}
use Rattle.cover_merge.proofs.refining.greatest.Given as goal

abbrev pub invariant-loop-bit : goal.invariant-loop-bit
invariant-loop-bit l = record {
  low : l.bit ≤ 32;
  none_more : (j : ℕ) → l.bit ≤ j → j < 32 → get_or l.counts j 0 ≤ l.most;
  best_is : 0 < l.most → l.most ≡ get_or l.counts l.best 0;
  best_low : 0 < l.most → l.best < 32;
  highest : (j : ℕ) → 0 < l.most → l.best < j → j < 32 → get_or l.counts j 0 < l.most;
}

abbrev pub decreases-loop-bit : goal.decreases-loop-bit
decreases-loop-bit l = l.bit
