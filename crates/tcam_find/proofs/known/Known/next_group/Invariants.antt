use Rattle.std.proofs.Common.{◌≡◌, ℕ, ◌-◌, ◌<◌, ◌≤◌, eqb, false, get_or, bit_and}
use Rattle.tcam_find.proofs.known.Known.next_group.Given as goal

-- the key has other values at the groups before
abbrev pub invariant-loop-at : goal.invariant-loop-at
invariant-loop-at l = record {
  ahead : l.from ≤ l.at;
  others : (i : ℕ) → l.from ≤ i → i < l.at → eqb (bit_and l.key (get_or l.self.common i 0)) (get_or l.self.values i 0) ≡ false;
}

abbrev pub decreases-loop-at : goal.decreases-loop-at
decreases-loop-at l = l.used - l.at
