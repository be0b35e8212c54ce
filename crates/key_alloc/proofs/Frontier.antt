-- The frontier moves: behind a run of free keys, or behind a fixed block.
use Rattle.key_alloc.proofs.Common.{All, All-contains, All-each, All-left, All-permutation, All-weaker, AllPairs-across, AllPairs-left, AreAhead, AreDownwards, AreKeysFreeBeside, AreRuns, AreStarts}
use Rattle.key_alloc.proofs.Common.{Block, Contains, Contains-append_left, Contains-at, Contains-push, Contains-push_cases, FreeKeys, HaveRanges, IsOpenPlace, IsPermutation, IsPermutation-sym, List}
use Rattle.key_alloc.proofs.Common.{MissesRange, None, Option, Some, [], ap, arith, cases_lt, end_of_run, false, get_or, get_or_from_slice_get, has_key, in_range, inl, inr, is_free, key_or_end}
use Rattle.key_alloc.proofs.Common.{length, length_push, list_any, list_any_at, list_any_none, ltb, nat_tests, not, refl, size_of, slice_get, slice_get-pushed, slice_get_there, subst, sym, true, ℕ}
use Rattle.key_alloc.proofs.Common.{◌&&◌, ◌++◌, ◌+◌, ◌-◌, ◌<◌, ◌||◌, ◌∙◌, ◌∷◌, ◌≡◌, ◌≤◌, ◌⊎◌}

-- where the run of free keys before the blocks ahead ends
pub record IsRunEnd (ahead : List Block) (end : ℕ) : Type 0 where
  pub first : (c : Block) → Contains ahead c → end ≤ c.key
  pub is : (end ≡ 4294967296) ⊎ ((b : Block) × Contains ahead b × (b.key ≡ end))

pub run_end : (ahead : List Block) → AreDownwards ahead → IsRunEnd ahead (end_of_run ahead)
run_end ahead downwards = by_last (slice_get ahead (length ahead - 1)) refl
  where
    by_last : (o : Option Block) → slice_get ahead (length ahead - 1) ≡ o → IsRunEnd ahead (key_or_end o)
    by_last None is = record {
      first = λ c has. absurd (let there = slice_get_there ahead (length ahead - 1) (let within : has.0 < length ahead = has.1 in omega arith) in let e : None ≡ Some there.0 = sym is ∙ there.1 in cc);
      is = inl refl;
    }
    by_last (Some b) is = record {
      first = λ c has.
          let last : get_or ahead (length ahead - 1) c ≡ b = get_or_from_slice_get ahead (length ahead - 1) b c is in
          let within : has.0 < length ahead = has.1 in
          elim (cases_lt has.0 (length ahead - 1)) [
            | inl before ↦ (
                let pair = downwards has.0 (length ahead - 1) c before (omega arith) in
                let one : b.key + size_of b ≤ c.key = subst (λ (x : Block). b.key + size_of b ≤ x.key) has.2 (subst (λ (x : Block). x.key + size_of x ≤ (get_or ahead has.0 c).key) last pair) in
                omega (arith, one)
                )
            | inr here ↦ (
                let at : has.0 ≡ length ahead - 1 = omega arith in
                let same : b ≡ c = sym last ∙ (ap (λ n. get_or ahead n c) (sym at) ∙ has.2) in
                let keys : b.key ≡ c.key = ap (λ (x : Block). x.key) same in
                omega (arith, keys)
                )
          ];
      is = inr (b, Contains-at ahead (length ahead - 1) b is, refl);
    }

pub last_is_run_end : (ahead rest : List Block) (b : Block) → ahead ≡ rest ++ b ∷ [] → end_of_run ahead ≡ b.key
last_is_run_end ahead rest b is = grind (arith, slice_get-pushed rest b (length (rest ++ b ∷ []) - 1) (omega (arith, length_push rest b)), length_push rest b)

module _ (taken : List Block) (free : FreeKeys) (state : AreKeysFreeBeside taken free) where
  -- the run of free keys from the frontier on
  module _ (end : ℕ) (run : IsRunEnd free.ahead.items end) (more : free.frontier < end) where
    not_taken : (k : ℕ) → free.frontier ≤ k → k < end → list_any (has_key k) taken ≡ false
    not_taken k low high = list_any_none (has_key k) taken (λ j d inside. elim (state.ahead.behind j d inside) [
      | inl behind ↦ grind (arith, nat_tests)
      | inr beyond ↦ (let first = run.first (get_or taken j d) beyond in grind (arith, nat_tests))
    ])

    is_free_now : (k : ℕ) → (is_free free.below.holes k || in_range free.frontier (end - free.frontier) k) ≡ (ltb k end && not (list_any (has_key k) taken))
    is_free_now k = grind (arith, cases_lt k free.frontier, nat_tests, cases_lt k end, not_taken)

    limit : end ≤ 4294967296
    limit = elim run.is [
      | inl all ↦ omega (arith, all)
      | inr block ↦ (let range = All-contains (λ (c : Block). (0 < size_of c) × (c.key + size_of c ≤ 4294967296)) free.ahead.items block.0 state.ahead.ranges block.1 in let at = block.2 in omega (arith, range.1, at))
    ]

    whole_now : (s p : ℕ) → IsOpenPlace taken s p → p < end → p + s ≤ end
    whole_now s p o low = elim (cases_lt p free.frontier) [
      | inl below ↦ omega (arith, state.whole s p o below, more)
      | inr from ↦ elim run.is [
        | inl all ↦ omega (arith, all, o.within)
        | inr (b, ahead, at) ↦ elim (cases_lt end (p + s)) [
          | inl beyond ↦ (
              let range = All-contains (λ (c : Block). (0 < size_of c) × (c.key + size_of c ≤ 4294967296)) free.ahead.items b state.ahead.ranges ahead in
              let among = (All-contains (λ (c : Block). (free.frontier ≤ c.key) × Contains taken c) free.ahead.items b state.ahead.beyond ahead).1 in
              absurd (All-contains (MissesRange p s) taken b o.apart among end (grind (arith, nat_tests)) (grind (arith, nat_tests)))
              )
          | inr within ↦ within
        ]
      ]
    ]

    pub moved_up : (after : FreeKeys) → AreRuns 0 4294967296 after.below.holes → after.below.size ≡ free.below.size → after.frontier ≡ end → after.ahead.items ≡ free.ahead.items → after.starts ≡ free.starts
        → ((k : ℕ) → is_free after.below.holes k ≡ (is_free free.below.holes k || in_range free.frontier (end - free.frontier) k)) → AreKeysFreeBeside taken after
    moved_up after runs size at same starts free_now = record {
      runs = runs;
      size = size ∙ state.size;
      limit = omega (arith, limit, at);
      free = λ k. free_now k ∙ is_free_now k ∙ ap (λ z. ltb k z && not (list_any (has_key k) taken)) (sym at);
      ahead = subst (λ x. AreAhead taken x after.frontier) (sym same) (subst (AreAhead taken free.ahead.items) (sym at) (record {
        behind = grind (arith, All-weaker);
        beyond = All-each (λ (c : Block). (end ≤ c.key) × Contains taken c) free.ahead.items
            (λ c has. (run.first c has, (All-contains (λ (c : Block). (free.frontier ≤ c.key) × Contains taken c) free.ahead.items c state.ahead.beyond has).1));
        ranges = state.ahead.ranges;
        downwards = state.ahead.downwards;
      }));
      whole = λ s p o low. omega (arith, at, whole_now s p o (omega (arith, at, low)));
      starts = subst (AreStarts taken) (sym starts) state.starts;
    }

  -- the fixed block at the frontier
  module _ (b : Block) (rest : List Block) (is : free.ahead.items ≡ rest ++ b ∷ []) (here : b.key ≤ free.frontier) where
    b_ahead : Contains free.ahead.items b
    b_ahead = subst (λ x. Contains x b) (sym is) (Contains-push rest b)

    at_frontier : b.key ≡ free.frontier
    at_frontier = omega (arith, here, (All-contains (λ (c : Block). (free.frontier ≤ c.key) × Contains taken c) free.ahead.items b state.ahead.beyond b_ahead).0)

    b_taken : Contains taken b
    b_taken = (All-contains (λ (c : Block). (free.frontier ≤ c.key) × Contains taken c) free.ahead.items b state.ahead.beyond b_ahead).1

    pub range : (0 < size_of b) × (b.key + size_of b ≤ 4294967296)
    range = All-contains (λ (c : Block). (0 < size_of c) × (c.key + size_of c ≤ 4294967296)) free.ahead.items b state.ahead.ranges b_ahead

    abbrev pub end : ℕ
    end = free.frontier + size_of b

    rest_after : (c : Block) → Contains rest c → end ≤ c.key
    rest_after c has =
        let across = AllPairs-across (λ (x y : Block). y.key + size_of y ≤ x.key) rest (b ∷ []) (subst AreDownwards is state.ahead.downwards) in
        let one : b.key + size_of b ≤ c.key = All-contains (λ (y : Block). y.key + size_of y ≤ c.key) (b ∷ []) b (All-contains (λ (x : Block). All (λ (y : Block). y.key + size_of y ≤ x.key) (b ∷ [])) rest c across has) (Contains-push [] b) in
        omega (arith, one, at_frontier)

    is_free_past : (k : ℕ) → is_free free.below.holes k ≡ (ltb k end && not (list_any (has_key k) taken))
    is_free_past k = state.free k ∙ elim (cases_lt k free.frontier) [
      | inl below ↦ grind (arith, nat_tests)
      | inr from ↦ elim (cases_lt k end) [
        | inl inside ↦ (
            let mine : has_key k b ≡ true = (let at = at_frontier in grind (arith, nat_tests)) in
            let any : list_any (has_key k) taken ≡ true = list_any_at (has_key k) taken b_taken.0 b b_taken.1 (ap (has_key k) b_taken.2 ∙ mine) in
            grind (arith, nat_tests)
            )
        | inr past ↦ grind (arith, nat_tests)
      ]
    ]

    pub passed : (after : FreeKeys) → after.below ≡ free.below → after.frontier ≡ end → after.ahead.items ≡ rest → after.starts ≡ free.starts → AreKeysFreeBeside taken after
    passed after same at left starts = record {
      runs = subst (λ r. AreRuns 0 4294967296 r.holes) (sym same) state.runs;
      size = ap (λ r. r.size) same ∙ state.size;
      limit = omega (arith, at, range.1, at_frontier);
      free = λ k. ap (λ r. is_free r.holes k) same ∙ is_free_past k ∙ ap (λ z. ltb k z && not (list_any (has_key k) taken)) (sym at);
      ahead = subst (λ x. AreAhead taken x after.frontier) (sym left) (subst (AreAhead taken rest) (sym at) (record {
        behind = All-weaker (λ (c : Block). (c.key + size_of c ≤ free.frontier) ⊎ Contains free.ahead.items c) (λ (c : Block). (c.key + size_of c ≤ end) ⊎ Contains rest c)
            (λ c place. elim place [
              | inl behind ↦ inl (omega (arith, behind))
              | inr has ↦ elim (Contains-push_cases rest b c (subst (λ x. Contains x c) is has)) [
                | inl before ↦ inr before
                | inr last ↦ inl (subst (λ (x : Block). x.key + size_of x ≤ end) last (omega (arith, at_frontier)))
              ]
            ]) taken state.ahead.behind;
        beyond = All-each (λ (c : Block). (end ≤ c.key) × Contains taken c) rest (λ c has.
            let in_ahead : Contains free.ahead.items c = subst (λ x. Contains x c) (sym is) (Contains-append_left rest (b ∷ []) c has) in
            (rest_after c has, (All-contains (λ (c : Block). (free.frontier ≤ c.key) × Contains taken c) free.ahead.items c state.ahead.beyond in_ahead).1));
        ranges = All-left (λ (c : Block). (0 < size_of c) × (c.key + size_of c ≤ 4294967296)) rest (b ∷ []) (subst HaveRanges is state.ahead.ranges);
        downwards = AllPairs-left (λ (x y : Block). y.key + size_of y ≤ x.key) rest (b ∷ []) (subst AreDownwards is state.ahead.downwards);
      }));
      whole = λ s p o low. elim (cases_lt p free.frontier) [
        | inl below ↦ omega (arith, at, state.whole s p o below)
        | inr from ↦ elim (cases_lt p (p + s)) [
          | inl some ↦ absurd (All-contains (MissesRange p s) taken b o.apart b_taken p (let e = at_frontier in grind (arith, nat_tests, low, at)) (grind (arith, nat_tests)))
          | inr none ↦ omega (arith, low)
        ]
      ];
      starts = subst (AreStarts taken) (sym starts) state.starts;
    }

-- at the start the frontier is before all keys
pub at_start : (taken fixed : List Block) (free : FreeKeys) → IsPermutation taken fixed → AreDownwards fixed → HaveRanges fixed → free.ahead.items ≡ fixed → free.frontier ≡ 0
    → free.below.size ≡ 4294967296 → AreRuns 0 4294967296 free.below.holes → ((k : ℕ) → is_free free.below.holes k ≡ false) → AreStarts taken free.starts → AreKeysFreeBeside taken free
at_start taken fixed free moved downwards ranges same zero size runs none starts = record {
  runs = runs;
  size = size;
  limit = omega (arith, zero);
  free = λ k. none k ∙ grind (arith, nat_tests, zero);
  ahead = subst (λ x. AreAhead taken x free.frontier) (sym same) (record {
    behind = All-permutation (λ (c : Block). (c.key + size_of c ≤ free.frontier) ⊎ Contains fixed c) fixed taken (IsPermutation-sym taken fixed moved)
        (All-each (λ (c : Block). (c.key + size_of c ≤ free.frontier) ⊎ Contains fixed c) fixed (λ c has. inr has));
    beyond = All-permutation (λ (c : Block). (free.frontier ≤ c.key) × Contains taken c) taken fixed moved
        (All-each (λ (c : Block). (free.frontier ≤ c.key) × Contains taken c) taken (λ c has. (omega (arith, zero), has)));
    ranges = ranges;
    downwards = downwards;
  });
  whole = λ s p o low. absurd (omega (arith, zero, low));
  starts = starts;
}
