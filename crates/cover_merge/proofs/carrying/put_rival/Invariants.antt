-- Those before place `at` are at most as general.
use Rattle.cover_merge.proofs.Common.{Rival, get_or, length, ℕ, ◌-◌, ◌<◌, ◌≤◌}
use Rattle.cover_merge.proofs.carrying.put_rival.Given as goal

abbrev pub invariant-loop-at : goal.invariant-loop-at
invariant-loop-at l = record {
  within : l.at ≤ length l.list.items;
  before : (k : ℕ) (e : Rival) → k < l.at → (get_or l.list.items k e).general ≤ l.rival.general;
}

abbrev pub decreases-loop-at : goal.decreases-loop-at
decreases-loop-at l = length l.list.items - l.at
