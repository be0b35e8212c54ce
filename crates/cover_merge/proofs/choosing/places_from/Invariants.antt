-- So far the places of the rows of the route before the place at hand, which is of the route too.
use Rattle.cover_merge.proofs.Common.{IsFirstOfRoute, Row, get_or, length, ℕ, ◌-◌, ◌<◌, ◌≡◌}
use Rattle.cover_merge.proofs.ChooseLemmas.{ArePlaces}
use Rattle.cover_merge.proofs.choosing.places_from.Given as goal

abbrev pub invariant-loop-place : goal.invariant-loop-place
invariant-loop-place l = (bits : ℕ) → IsFirstOfRoute l.rows bits l.fn.first → record {
  same : (d : Row) → l.place < length l.rows → (get_or l.rows l.place d).route.bits ≡ bits;
  found : ArePlaces bits l.rows l.place l.places.items;
}

abbrev pub decreases-loop-place : goal.decreases-loop-place
decreases-loop-place l = length l.rows - l.place
