-- The rows at the places passed lose none or changed now, nothing is kept of their routes, and all is still known.
use Rattle.cover_merge.proofs.Common.{AreStillKept, HasSameRoutes, IsFresh, IsKnownAt, LosesNone, Times, get_or, ℕ, ◌<◌, ◌≡◌, ◌⊎◌}
use Rattle.cover_merge.proofs.carrying.touch.Given as goal

abbrev pub invariant-loop-k : goal.invariant-loop-k
invariant-loop-k l = record {
  known : IsKnownAt l.now l.merge.rows.now l.known;
  done : (j : ℕ) (e : Times) → j < l.k → (LosesNone l.merge.rows.now l.merge.gaps.places.now (get_or l.met j 0)) ⊎ (IsFresh l.now (get_or l.known.times.items (get_or l.met j 0) e));
  own : get_or l.known.latest.items l.own 0 ≡ l.now;
  rivals : l.known.rivals ≡ l.fn.known.rivals;
  same : HasSameRoutes l.fn.known l.known;
  left : AreStillKept (λ c it. (j : ℕ) → j < l.k → c ≡ get_or l.fn.known.numbers.items (get_or l.met j 0) 0 → ⊥) l.fn.known.kept.items l.known.kept.items;
}
