-- No row passed that is outside the set meets an alias of row s.
use Rattle.cover_merge.proofs.Common.{IsClearOf, ℕ, ◌<◌}
use Rattle.cover_merge.proofs.checking.passes_up.Given as goal

abbrev pub invariant-loop-r : goal.invariant-loop-r
invariant-loop-r l = (k : ℕ) → l.s < k → k < l.r → IsClearOf l.rows l.places l.s k
