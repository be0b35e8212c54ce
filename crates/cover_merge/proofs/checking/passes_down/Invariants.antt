-- The block meets no alias of a row that was passed.
use Rattle.cover_merge.proofs.Common.{Misses, Row, get_or, ℕ, ◌<◌, ◌≤◌}
use Rattle.cover_merge.proofs.checking.passes_down.Given as goal

abbrev pub invariant-loop-r : goal.invariant-loop-r
invariant-loop-r l = (k : ℕ) (d : Row) → l.p ≤ k → k < l.r → Misses l.block (get_or l.rows k d)
