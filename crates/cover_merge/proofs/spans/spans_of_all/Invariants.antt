-- The rows so far have their spans.
use Rattle.cover_merge.proofs.Common.{AreSpansOf, Row, [], get_or, length, ℕ, ◌<◌, ◌≡◌}
use Rattle.cover_merge.proofs.spans.spans_of_all.Given as goal

abbrev pub invariant-loop-s : goal.invariant-loop-s
invariant-loop-s l = record {
  many : length l.spans.items ≡ l.s;
  each : (s : ℕ) (d : Row) → s < l.s → AreSpansOf (get_or l.rows s d).aliases (get_or l.spans.items s []);
}
