-- Each span so far holds its aliases.
use Rattle.cover_merge.proofs.Common.{AreSpansOf, length, ◌≡◌}
use Rattle.cover_merge.proofs.spans.spans_of.Given as goal

abbrev pub invariant-loop-k : goal.invariant-loop-k
invariant-loop-k l = record {
  many : length l.spans ≡ l.k;
  are : AreSpansOf l.aliases l.spans;
}
