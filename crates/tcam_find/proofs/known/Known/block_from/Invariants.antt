use Rattle.std.proofs.Common.{◌≡◌, ℕ, ◌+◌, ◌*◌, ◌<◌, ◌≤◌, eqb, false, get_or, bit_and}
use Rattle.tcam_find.proofs.known.Known.block_from.Given as goal

-- the key has other values at the places before
abbrev pub invariant-loop-eight : goal.invariant-loop-eight
invariant-loop-eight l =
    (i : ℕ) → l.from ≤ i → i < l.from + 8 * l.eight → eqb (bit_and l.key (get_or l.self.block_common i 0)) (get_or l.self.block_values i 0) ≡ false
