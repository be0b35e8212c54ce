-- No row passed is a legal pair with row i, and the row at hand has its route.
use Rattle.cover_merge.proofs.Common.{IsLegalPair, Row, get_or, length, ℕ, ◌-◌, ◌<◌, ◌≡◌}
use Rattle.cover_merge.proofs.choosing.partner.Given as goal

abbrev pub invariant-loop-j : goal.invariant-loop-j
invariant-loop-j l = record {
  behind : l.i < l.j;
  same : (d : Row) → l.j < length l.rows → (get_or l.rows l.j d).route.bits ≡ (get_or l.rows l.i d).route.bits;
  none : (b : ℕ) → l.i < b → b < l.j → IsLegalPair l.rows l.i b → ⊥;
}

abbrev pub decreases-loop-j : goal.decreases-loop-j
decreases-loop-j l = length l.rows - l.j
