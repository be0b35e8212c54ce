-- Each rival that was passed is at one of the places.
use Rattle.cover_merge.proofs.Common.{Rival, get_or, is_at_one, true, ℕ, ◌<◌, ◌≡◌}
use Rattle.cover_merge.proofs.rivals.passes.Given as goal

abbrev pub invariant-loop-k : goal.invariant-loop-k
invariant-loop-k l = (k : ℕ) → k < l.k → (e : Rival) → is_at_one l.rivals.serials.items l.places (get_or l.list k e).serial ≡ true
