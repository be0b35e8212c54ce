-- The numbers below k so far.
use Rattle.cover_merge.proofs.Common.{get_or, length, ℕ, ◌<◌, ◌≡◌}
use Rattle.cover_merge.proofs.rivals.counted.Given as goal

abbrev pub invariant-loop-k : goal.invariant-loop-k
invariant-loop-k l = record {
  long : length l.numbers.items ≡ l.k;
  each : (j : ℕ) → j < l.k → get_or l.numbers.items j 0 ≡ j;
}
