-- No row passed is the first of a legal pair, and all is still known.
use Rattle.cover_merge.proofs.Common.{AreChanges, AreTriedUpTo, IsLegalPair, ℕ, ◌<◌}
use Rattle.cover_merge.proofs.choosing.first_pair.Given as goal

abbrev pub invariant-loop-i : goal.invariant-loop-i
invariant-loop-i l = record {
  none : (a : ℕ) → a < l.i → (b : ℕ) → IsLegalPair l.rows a b → ⊥;
  marks : AreTriedUpTo l.now l.rows l.known.times.items;
  changes : AreChanges l.rows l.known l.links l.changes;
}
