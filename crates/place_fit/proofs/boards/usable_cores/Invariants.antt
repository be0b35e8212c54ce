use Rattle.place_fit.proofs.Common.{bit_at, cond, core_spot, is_usable, ℕ, ◌<◌, ◌^◌, ◌≡◌, ◌≤◌}
use Rattle.place_fit.proofs.boards.usable_cores.Given as goal

-- the bits of the cores so far
abbrev pub invariant-loop-core : goal.invariant-loop-core
invariant-loop-core l = record {
  few : l.cores < 2 ^ 18;
  so_far : (p : ℕ) → p < l.core → bit_at l.cores p ≡ cond (is_usable l.machine (core_spot l.chip p)) 1 0;
  rest : (p : ℕ) → l.core ≤ p → bit_at l.cores p ≡ 0;
}
