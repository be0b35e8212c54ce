-- From which number on all are among sorted ones, and what is free below it.
use Rattle.table_rules.proofs.Common.{All, All-from_map, All-permutation, Contains, Contains-permutation, Contains-unmap, HasAllRoutes, IsFree, IsPermutation, IsPermutation-sym, List, RoutedBlock}
use Rattle.table_rules.proofs.Common.{arith, cases_lt, get_or, get_or_default, length, map, min, slice_index, subst, ℕ, ◌+◌, ◌-◌, ◌<◌, ◌≡◌, ◌≤◌}

module _ (bits : List ℕ) (routes full k next : ℕ) (k_in : k < length bits) (is : next ≡ min full (slice_index bits (length bits - 1 - k))) where
  pub next_below : full ≤ routes → next ≤ routes
  next_below below = omega (arith, is, below)

  pub next_full : full - slice_index bits (length bits - 1 - k) ≤ 1 → ((b : ℕ) → full ≤ b → b < routes → Contains bits b) → (b : ℕ) → next ≤ b → b < routes → Contains bits b
  next_full close all b from within = grind (arith, cases_lt b full, get_or_default bits (length bits - 1 - k) b 0 (omega (arith, k_in)))

  pub next_passed : ((j d : ℕ) → length bits ≤ j + k → j < length bits → full ≤ get_or bits j d) → (j d : ℕ) → length bits ≤ j + (k + 1) → j < length bits → next ≤ get_or bits j d
  next_passed passed j d from within = grind (arith, cases_lt (length bits - 1 - k) j, get_or bits j d, get_or_default bits (length bits - 1 - k) 0 d (omega (arith, k_in)))

module _ (given : List RoutedBlock) (bits sorted : List ℕ) (of : bits ≡ map (λ (r : RoutedBlock). r.route.bits) given) (moved : IsPermutation bits sorted) where
  pub is_free : (b : ℕ) → All (λ x. x ≡ b → ⊥) sorted → IsFree given b
  is_free b none =
      All-from_map (λ x. x ≡ b → ⊥) (λ (r : RoutedBlock). r.route.bits) given (subst (All (λ x. x ≡ b → ⊥)) of (All-permutation (λ x. x ≡ b → ⊥) sorted bits (IsPermutation-sym bits sorted moved) none))

  pub has_all : (routes : ℕ) → ((b : ℕ) → 0 ≤ b → b < routes → Contains sorted b) → HasAllRoutes routes given
  has_all routes all b within free =
      let r = Contains-unmap (λ (r : RoutedBlock). r.route.bits) given b (subst (λ l. Contains l b) of (Contains-permutation sorted bits b (IsPermutation-sym bits sorted moved) (all b (omega arith) within))) in
      subst (λ (x : RoutedBlock). x.route.bits ≡ b → ⊥) r.1.2 (free r.1.0 r.0 r.1.1) r.2
