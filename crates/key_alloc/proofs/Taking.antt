-- Which places of the region of keys are free, while blocks are taken from it.
use Rattle.key_alloc.proofs.Common.{All-append, All-cons, All-contains, All-left, All-nil, All-weaker, AreAhead, AreKeysFreeBeside, AreRuns, AreStarts, Block, Contains, Contains-append_left, Err}
use Rattle.key_alloc.proofs.Common.{FreeKeys, HasNoFitFrom, IfOk, IfSome, IsBlockFor, IsFirstFitFrom, IsLeastBlock, IsLeastOpenPlace, IsOpenPlace, IsSizeFor, List, MatchOption, Memory, MissesRange}
use Rattle.key_alloc.proofs.Common.{Net, None, Ok, Option, Result, Some, Start, [], and_parts, ap, arith, cases_Bool, cases_lt, clash, false, free_in_range, get_or, has_key, in_range, inl, is_free}
use Rattle.key_alloc.proofs.Common.{is_hole_range, list_any, list_any-append, list_any_at, list_any_none, lt-ltb, ltb, ltb-true, nat_tests, not, not-true, or_left, or_neither, range_of_free, size_of}
use Rattle.key_alloc.proofs.Common.{subst, sym, true, ℕ, ◌%◌, ◌&&◌, ◌++◌, ◌+◌, ◌-◌, ◌<◌, ◌||◌, ◌∙◌, ◌∷◌, ◌≡◌, ◌≤◌, ◌⊎◌}
use Rattle.key_alloc.proofs.Ranges.{in_facts, free_of, regroup}

-- ---- the keys that are free while blocks are taken

module _ (taken : List Block) (free : FreeKeys) (state : AreKeysFreeBeside taken free) (s : ℕ) (some : 0 < s) where
  -- the places of a range in a hole are below the frontier
  pub below_frontier : (p : ℕ) → is_hole_range free.below.holes p s ≡ true → p + s ≤ free.frontier
  below_frontier p fits =
      let at = and_parts (ltb (p + s - 1) free.frontier) (not (list_any (has_key (p + s - 1)) taken)) (sym (state.free (p + s - 1)) ∙ free_in_range free.below.holes p s (p + s - 1) fits (omega arith) (omega arith)) in
      let last = ltb-true (p + s - 1) free.frontier at.0 in
      omega (arith, last)

  pub open_from_hole : (p : ℕ) → p % s ≡ 0 → is_hole_range free.below.holes p s ≡ true → IsOpenPlace taken s p
  open_from_hole p aligned fits = grind (arith, below_frontier p fits, and_parts, free_in_range, in_facts, clash, list_any_at, not-true)

  pub hole_from_open : (p : ℕ) → IsOpenPlace taken s p → p < free.frontier → is_hole_range free.below.holes p s ≡ true
  hole_from_open p o low = grind (arith, nat_tests, range_of_free, free_of, lt-ltb, list_any_none, cases_Bool, get_or)

  -- the first fit below the frontier is the least place of all
  module _ (start : ℕ) (before : (p : ℕ) → IsOpenPlace taken s p → start ≤ p) where
    pub least_from_fit : (p : ℕ) → IsFirstFitFrom free.below.holes start s s p → IsLeastOpenPlace taken s p
    least_from_fit p fit = grind (arith, open_from_hole p fit.aligned fit.fits, below_frontier p fit.fits, cases_lt, hole_from_open)

    -- where there is none, all that are left are beyond the frontier
    pub beyond_from_fit : HasNoFitFrom free.below.holes start s s → (p : ℕ) → IsOpenPlace taken s p → free.frontier ≤ p
    beyond_from_fit none p o = grind (arith, cases_lt p free.frontier, clash, hole_from_open)

    pub none_from_fit : HasNoFitFrom free.below.holes start s s → free.frontier ≡ 4294967296 → (p : ℕ) → IsOpenPlace taken s p → ⊥
    none_from_fit none all p o = absurd (omega (arith, beyond_from_fit none p o, o.within, some, all))

-- one block more is taken, which is behind the frontier or ahead
pub ahead_more : (taken : List Block) (b : Block) (ahead : List Block) (frontier : ℕ) → AreAhead taken ahead frontier → (b.key + size_of b ≤ frontier) ⊎ Contains ahead b
    → AreAhead (taken ++ b ∷ []) ahead frontier
ahead_more taken b ahead frontier state place = record {
  behind = All-append (λ (c : Block). (c.key + size_of c ≤ frontier) ⊎ Contains ahead c) taken (b ∷ []) state.behind
      (All-cons (λ (c : Block). (c.key + size_of c ≤ frontier) ⊎ Contains ahead c) b [] place (All-nil (λ (c : Block). (c.key + size_of c ≤ frontier) ⊎ Contains ahead c)));
  beyond = All-weaker (λ (c : Block). (frontier ≤ c.key) × Contains taken c) (λ (c : Block). (frontier ≤ c.key) × Contains (taken ++ b ∷ []) c)
      (λ c has. (has.0, Contains-append_left taken (b ∷ []) c has.1)) ahead state.beyond;
  ranges = state.ranges;
  downwards = state.downwards;
}

pub open_before : (taken : List Block) (b : Block) (s p : ℕ) → IsOpenPlace (taken ++ b ∷ []) s p → IsOpenPlace taken s p
open_before taken b s p o = record { aligned = o.aligned; within = o.within; apart = All-left (MissesRange p s) taken (b ∷ []) o.apart }

-- what no range begins before, none does when a block more is taken
starts_before : (taken : List Block) (b : Block) (starts : List Start) → AreStarts taken starts → AreStarts (taken ++ b ∷ []) starts
starts_before taken b starts all =
    All-weaker (λ (s : Start). (p : ℕ) → IsOpenPlace taken s.keys p → s.place ≤ p) (λ (s : Start). (p : ℕ) → IsOpenPlace (taken ++ b ∷ []) s.keys p → s.place ≤ p)
    (λ s before p o. before p (open_before taken b s.keys p o)) starts all

-- a block below the frontier is taken
pub taken_more : (taken : List Block) (b : Block) (free after : FreeKeys) → AreKeysFreeBeside taken free → 0 < size_of b → is_hole_range free.below.holes b.key (size_of b) ≡ true
    → AreRuns 0 4294967296 after.below.holes → after.below.size ≡ free.below.size → after.frontier ≡ free.frontier → after.ahead.items ≡ free.ahead.items → after.starts ≡ free.starts
    → ((k : ℕ) → is_free after.below.holes k ≡ (is_free free.below.holes k && not (in_range b.key (size_of b) k))) → AreKeysFreeBeside (taken ++ b ∷ []) after
taken_more taken b free after state some fits runs size same_frontier same_ahead same_starts is_free_now = record {
  runs = runs;
  size = size ∙ state.size;
  limit = omega (arith, state.limit, same_frontier);
  free = grind (arith, regroup, list_any-append);
  ahead = subst (λ x. AreAhead (taken ++ b ∷ []) x after.frontier) (sym same_ahead) (subst (AreAhead (taken ++ b ∷ []) free.ahead.items) (sym same_frontier)
      (ahead_more taken b free.ahead.items free.frontier state.ahead (inl (below_frontier taken free state (size_of b) some b.key fits))));
  whole = λ s p o low. omega (arith, same_frontier, state.whole s p (open_before taken b s p o) (omega (arith, same_frontier, low)));
  starts = subst (AreStarts (taken ++ b ∷ [])) (sym same_starts) (starts_before taken b free.starts state.starts);
}

-- a block that is among those that are taken takes no more
pub taken_again : (taken : List Block) (b : Block) (free : FreeKeys) → AreKeysFreeBeside taken free → Contains taken b → AreKeysFreeBeside (taken ++ b ∷ []) free
taken_again taken b free state has = record {
  runs = state.runs;
  size = state.size;
  limit = state.limit;
  free = λ k. state.free k ∙ ap (λ z. ltb k free.frontier && not z) (sym (list_any-append (has_key k) taken (b ∷ []) ∙ said_twice k (cases_Bool (has_key k b))));
  ahead = ahead_more taken b free.ahead.items free.frontier state.ahead
      (All-contains (λ (c : Block). (c.key + size_of c ≤ free.frontier) ⊎ Contains free.ahead.items c) taken b state.ahead.behind has);
  whole = λ s p o. state.whole s p (open_before taken b s p o);
  starts = starts_before taken b free.starts state.starts;
}
  where
    said_twice : (k : ℕ) → (has_key k b ≡ true) ⊎ (has_key k b ≡ false) → (list_any (has_key k) taken || (has_key k b || false)) ≡ list_any (has_key k) taken
    said_twice k h1 = grind (arith, list_any_at, or_left, or_neither)

-- ---- the block that a net gets, which is the least or none

-- the block of the least place is the least block
pub block_from_least : (taken : List Block) (keys size place : ℕ) (b : Block) → IsSizeFor keys size → b.key ≡ place → size_of b ≡ size → IsLeastOpenPlace taken size place → IsLeastBlock taken keys b
block_from_least taken keys size place b for_keys key is least = grind arith

-- the block that is taken where none is fixed
pub free_in : (net : Net) (free after : FreeKeys) (r : Result (Option Block) Memory) → IfOk r (λ o. IfSome o (λ b. (taken : List Block) → AreKeysFreeBeside taken free → AreKeysFreeBeside (taken ++ b ∷ []) after))
    → IfOk r (λ o. IfSome o (λ b. (taken : List Block) → AreKeysFreeBeside taken free → IfSome net.fixed (Contains taken) → AreKeysFreeBeside (taken ++ b ∷ []) after))
free_in net free after (Ok (Some b)) more = λ taken state among. more taken state
free_in net free after (Ok None) more = tt
free_in net free after (Err e) more = tt

module _ (net : Net) (free : FreeKeys) (not_fixed : net.fixed ≡ None) where
  pub right_in : (r : Result (Option Block) Memory) → IfOk r (λ o. IfSome o (λ b. (taken : List Block) → AreKeysFreeBeside taken free → IsLeastBlock taken net.keys b))
      → IfOk r (λ o. IfSome o (λ b. (taken : List Block) → AreKeysFreeBeside taken free → IsBlockFor taken net b))
  right_in (Ok (Some b)) least = λ taken state.
      subst (λ o. MatchOption o (IsLeastBlock taken net.keys b) (λ f. b ≡ f)) (sym not_fixed) (least taken state)
  right_in (Ok None) least = tt
  right_in (Err e) least = tt
