-- The aliases that were taken lie in the span.
use Rattle.cover_merge.proofs.Common.{Alias, LiesIn, get_or, ℕ, ◌<◌, ◌≤◌}
use Rattle.cover_merge.proofs.spans.span_from.Given as goal

abbrev pub invariant-loop-i : goal.invariant-loop-i
invariant-loop-i l = (i : ℕ) (d : Alias) → l.from ≤ i → i < l.i → LiesIn (get_or l.aliases i d).block l.span
