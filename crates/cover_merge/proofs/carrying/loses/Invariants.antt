-- No rival passed is at one of the places.
use Rattle.cover_merge.proofs.Common.{Rival, false, get_or, is_at_one, ℕ, ◌<◌, ◌≡◌}
use Rattle.cover_merge.proofs.carrying.loses.Given as goal

abbrev pub invariant-loop-k : goal.invariant-loop-k
invariant-loop-k l = (n : ℕ) (e : Rival) → n < l.k → is_at_one l.rivals.serials.items l.row.merge.gaps.places.now (get_or l.list n e).serial ≡ false
