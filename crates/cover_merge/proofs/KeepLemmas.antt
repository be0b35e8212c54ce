-- What is kept of routes: the greatest, and what a merge leaves.
use Rattle.cover_merge.proofs.Common.{All, AreAllKept, AreNumbers, AreRoutesKept, AreStillKept, Block, Fresh, HasNoLargest, IsApart, IsDownStep, IsEachOnce, IsFreshlyRefined, IsGone, IsKept}
use Rattle.cover_merge.proofs.Common.{IsLargest, IsLegalMerge, IsMostBefore, IsNoRival, IsOneRoute, IsSound, Kept, LeadsWithin, List, Misses, MissesAllOf, Most, None, Option, PassesDownCheck}
use Rattle.cover_merge.proofs.Common.{PassesUpCheck, Refines, RefinesWithin, Row, Some, [], after, ap, arith, below_more, cases_lt, ends_empty, generality, generality_le, get_or, get_or-eq_default}
use Rattle.cover_merge.proofs.Common.{get_or-set_at, get_or-set_other, inl, inr, length, length-set, merge_rows, merged_block, place_of_route, places_of, refl, rules, set, subst, sym, ℕ, ◌+◌, ◌<◌}
use Rattle.cover_merge.proofs.Common.{◌∙◌, ◌≡◌, ◌≢◌, ◌≤◌, ◌⊎◌}
use Rattle.cover_merge.proofs.{Lists.written_at, LinkLemmas.number_of_route, LinkLemmas.route_there, LinkLemmas.routes_all, KeptLemmas.forgets, KeptLemmas.kept_after, KeptLemmas.merge_other}
use Rattle.cover_merge.proofs.{KeptLemmas.no_rival_kept, KeptLemmas.size_of_kept, ChooseLemmas.route_cases, KeptLemmasSteps.gone_down, KeptLemmasSteps.gone_legal, KeptLemmasSteps.gone_up}

pub none_some : (it : Kept) → None ≡ Some it → ⊥
none_some it is = cc

-- what is kept is kept of some route
pub inside_some : (xs : List (Option Kept)) (k : ℕ) (it : Kept) → get_or xs k None ≡ Some it → k < length xs
inside_some xs k it is = grind (arith, cases_lt k (length xs), none_some, get_or-eq_default)

-- ---- the greatest

module _ (routes : List ℕ) (kept : List (Option Kept)) (c : ℕ) (most : Most) (old : IsMostBefore routes kept c most) where
  module _ (own : Kept) (here_is : get_or kept c None ≡ Some own) (bits : ℕ) (read : bits ≡ get_or routes c 0) where
    last_is : (k : ℕ) (it : Kept) → k < c + 1 → c ≤ k → get_or kept k None ≡ Some it → (it ≡ own) × (get_or routes k 0 ≡ bits)
    last_is k it less from is = grind (arith, get_or)

    pub most_new : (new : Most) → new.number ≡ c → new.bits ≡ bits → new.size ≡ own.size → c < length routes → (most.size < own.size) ⊎ ((own.size ≡ most.size) × (bits < most.bits)) → IsMostBefore routes kept (c + 1) new
    most_new new at bits_is size_is within wins =
        let no_fewer : most.size ≤ own.size = elim wins [ inl less ↦ omega (arith, less) | inr tie ↦ omega (arith, tie.0) ] in record {
          inside = λ some. subst (λ i. i < length routes) (sym at) within;
          own = λ some. (own, ap (λ i. get_or kept i None) at ∙ here_is, sym size_is);
          bits = λ some. ap (λ i. get_or routes i 0) at ∙ sym read ∙ sym bits_is;
          no_larger = grind (arith, cases_lt, last_is);
          smaller = grind (arith, cases_lt, last_is);
        }

-- ---- the largest

-- of each route it is known how many places its refined set has
module _ (routes : List ℕ) (rows : List Row) (numbers : List ℕ) (are : AreNumbers routes rows numbers) (kept : List (Option Kept)) (keeps : AreRoutesKept routes rows kept) (all : AreAllKept routes kept) (most : Most) (is : IsMostBefore routes kept (length routes) most) where
  -- a route that no row has has no place
  nothing_of : (bits other n : ℕ) → places_of bits 0 rows ≡ [] → IsNoRival rows bits other n
  nothing_of bits other n none = record { set = []; refined = subst (λ l. Refines rows l []) (sym none) (ends_empty [] (omega arith)); no_larger = omega arith; smaller = λ some low. some }

  rival_at : (bits : ℕ) → place_of_route routes bits < length routes → IsNoRival rows bits most.bits most.size
  rival_at bits low =
      let c = place_of_route routes bits in
      let own = all c low in
      subst (λ n. IsNoRival rows n most.bits most.size) (route_there routes bits low)
      (no_rival_kept rows own.0.outer own.0.low (get_or routes c 0) own.0.size (keeps c own.0 low own.1) most.bits most.size (is.no_larger c own.0 low own.1) (is.smaller c own.0 low own.1))

  pub no_rival : (bits : ℕ) → IsNoRival rows bits most.bits most.size
  no_rival bits = elim (route_cases bits rows) [
    | inl found ↦ rival_at bits (routes_all routes rows numbers are bits found.0 (merge_rows []) found.1 (found.2.1 (merge_rows [])))
    | inr none ↦ nothing_of bits most.bits most.size none
  ]

  pub none_largest : most.size < 2 → HasNoLargest rows
  none_largest less route = let rival = no_rival route.bits in (rival.set, rival.refined, omega (arith, rival.no_larger))

  pub best_largest : (set : List ℕ) → 2 ≤ most.size → (outer : Block) (low : ℕ) → RefinesWithin rows outer low (places_of (get_or routes most.number 0) 0 rows) set → IsLargest rows set
  best_largest set two outer low refined =
      let some : 0 < most.size = omega (arith, two) in
      let own = is.own some in
      let bits = is.bits some in
      let found : Refines rows (places_of (get_or routes most.number 0) 0 rows) set = forgets rows outer low (places_of (get_or routes most.number 0) 0 rows) set refined in
      let many : length set ≡ most.size =
      size_of_kept rows own.0.outer own.0.low (get_or routes most.number 0) own.0.size (keeps most.number own.0 (is.inside some) own.1) set found ∙ own.2 in record {
        bits = most.bits;
        refined = subst (λ n. Refines rows (places_of n 0 rows) set) bits found;
        two = omega (arith, two, many);
        others = λ route. subst (IsNoRival rows route.bits most.bits) (sym many) (no_rival route.bits);
      }

-- ---- one route more of which something is kept

pub kept_put : (routes : List ℕ) (rows : List Row) (kept : List (Option Kept)) (c : ℕ) (own : Kept) → c < length kept → IsKept rows (get_or routes c 0) own.size own.outer own.low → AreRoutesKept routes rows kept → AreRoutesKept routes rows (set kept c (Some own))
kept_put routes rows kept c own inside here keeps k it = search (rules, written_at, get_or)

pub all_more : (kept : List (Option Kept)) (c : ℕ) (own : Kept) → c < length kept → ((k : ℕ) → k < c → (it : Kept) × (get_or kept k None ≡ Some it)) → (k : ℕ) → k < c + 1 → (it : Kept) × (get_or (set kept c (Some own)) k None ≡ Some it)
all_more kept c own inside all = below_more (λ k. (it : Kept) × (get_or (set kept c (Some own)) k None ≡ Some it)) c
    (λ k less. let old = all k less in (old.0, get_or-set_other kept c k (Some own) None (λ same. omega (arith, same, less)) ∙ old.1)) (own, get_or-set_at kept c c (Some own) None refl inside)

-- ---- the set that was refined last

pub fresh_more : (routes : List ℕ) (rows : List Row) (c : ℕ) (found : List ℕ) (outer : Block) (low : ℕ) → RefinesWithin rows outer low (places_of (get_or routes c 0) 0 rows) found → (old new : Fresh) → (new ≡ old) ⊎ ((new.number ≡ c) × (new.set ≡ found))
    → IsFreshlyRefined routes rows old → IsFreshlyRefined routes rows new
fresh_more routes rows c found outer low refined old new (inl same) before = subst (IsFreshlyRefined routes rows) (sym same) before
fresh_more routes rows c found outer low refined old new (inr own) before = λ some.
    (outer, low, subst (λ k. RefinesWithin rows outer low (places_of (get_or routes k 0) 0 rows) new.set) (sym own.0) (subst (RefinesWithin rows outer low (places_of (get_or routes c 0) 0 rows)) (sym own.1) refined))

-- ---- what is left

-- one place is written anew
pub left_set : (P Q : ℕ → Kept → Type 0) (old now new : List (Option Kept)) (c : ℕ) (v : Option Kept) → c < length now → new ≡ set now c v → AreStillKept P old now
    → ((k : ℕ) (it : Kept) → k ≢ c → P k it → Q k it) → ((it : Kept) → v ≡ Some it → (get_or now c None ≡ Some it) × (P c it → Q c it)) → AreStillKept Q old new
left_set P Q old now new c v inside is before others here = record {
  one_each = ap length is ∙ length-set now c v ∙ before.one_each;
  each = λ k it found. written_at (λ n o. o ≡ Some it → (get_or old n None ≡ Some it) × (Q n it)) now c v None inside
      (λ same. let own = here it same in let was = before.each c it own.0 in (was.0, own.1 was.1))
      (λ n apart same. let was = before.each n it same in (was.0, others n it apart was.1)) k (ap (λ l. get_or l k None) (sym is) ∙ found);
}

-- what is left where nothing is kept of one route
pub forgotten : (kept : List (Option Kept)) (n : ℕ) → n < length kept → AreStillKept (λ k it. k ≢ n) kept (set kept n None)
forgotten kept n low =
    left_set (λ (k : ℕ) (it : Kept). k ≡ k) (λ (k : ℕ) (it : Kept). k ≢ n) kept kept _ n None low refl (record { one_each = refl; each = λ k it is. (is, refl) }) (λ k it apart same. apart) (λ it is. absurd (none_some it is))

-- of one route more it is shown
pub left_more : (P : Kept → Type 0) (old now : List (Option Kept)) (i : ℕ) → AreStillKept (λ k it. k < i → P it) old now → ((it : Kept) → get_or now i None ≡ Some it → P it) → AreStillKept (λ k it. k < i + 1 → P it) old now
left_more P old now i before here = record {
  one_each = before.one_each;
  each = λ k it is. ((before.each k it is).0, λ less. below_more (λ n. get_or now n None ≡ Some it → P it) i (λ n low found. (before.each n it found).1 low) (here it) k less is);
}

-- what is still kept after two steps
pub left_twice : (P Q R : ℕ → Kept → Type 0) (old now new : List (Option Kept)) → AreStillKept P old now → AreStillKept Q now new → ((k : ℕ) (it : Kept) → P k it → Q k it → R k it) → AreStillKept R old new
left_twice P Q R old now new first second both = record {
  one_each = second.one_each ∙ first.one_each;
  each = λ k it found.
      let later = second.each k it found in
      let before = first.each k it later.0 in
      (before.0, both k it before.1 later.1);
}

-- What is left of what was kept is so in the table after the merge.
pub kept_over : (routes : List ℕ) (rows : List Row) (numbers : List ℕ) (old mid new : List (Option Kept)) (places : List ℕ) (merged : Block)
    → IsEachOnce routes → AreNumbers routes rows numbers → IsSound rows → IsLegalMerge rows places merged
    → AreRoutesKept routes rows old → AreStillKept (λ c it. MissesAllOf merged rows numbers (length rows) c) old mid → AreStillKept (λ c it. (c ≡ get_or numbers (get_or places 0 0) 0 → ⊥) × (IsApart merged it)) mid new
    → AreRoutesKept routes (after rows places) new
kept_over routes rows numbers old mid new places merged once are sound merge keeps first second c it low is =
    let close = second.each c it is in
    let far = first.each c it close.0 in
    let bits = get_or routes c 0 in
    let d : Row = merge_rows [] in
    let member : get_or places 0 0 < length rows = merge.set.set.in_range 0 0 (omega (arith, merge.set.two)) in
    kept_after rows places bits it.size it.outer it.low sound merge.set merge.legal (record {
      other = merge_other rows places (get_or rows (get_or places 0 0) d).route.bits bits d merge.set refl (λ same. close.1.0 (sym (number_of_route routes rows numbers are once (get_or places 0 0) c d member low same)));
      misses = λ s e within same. subst (λ b. Misses b (get_or rows s e)) merge.block (far.1 s e within within (number_of_route routes rows numbers are once s c e within low same));
      apart = subst (λ b. IsApart b it) merge.block close.1.1;
    }) (keeps c it low far.0)

-- ---- one turn of the loop of a refinement

-- What the up-steps left is down-checked: the first block that was, and the generality of this one.
module _ (rows : List Row) (start set left : List ℕ) (outer wide joined : Block) (low g : ℕ) (gone : IsGone rows start set outer low) (one : IsOneRoute rows set) (leads : (b : Block) (least : ℕ) → LeadsWithin rows b least set left) where
  pub turned : (2 ≤ length left) × (joined ≡ merged_block rows left) × (PassesUpCheck rows left) → ((32 < low) × (wide ≡ joined)) ⊎ ((low ≤ 32) × (wide ≡ outer)) → IsGone rows start left wide (generality (merged_block rows left))
  turned sifted first = grind (arith, gone_up rows start set outer low gone left one.in_range leads, generality_le)

  module _ (sifted : (2 ≤ length left) × (joined ≡ merged_block rows left) × (PassesUpCheck rows left)) (first : ((32 < low) × (wide ≡ joined)) ⊎ ((low ≤ 32) × (wide ≡ outer))) (general : g ≡ generality joined) where
    low_is : generality (merged_block rows left) ≡ g
    low_is = sym (general ∙ ap generality sifted.1)

    pub turn_legal : (answer : List ℕ) → (PassesDownCheck rows left) × (answer ≡ left) → RefinesWithin rows wide g start answer
    turn_legal answer ends = subst (λ n. RefinesWithin rows wide n start answer) low_is
        (subst (RefinesWithin rows wide (generality (merged_block rows left)) start) (sym ends.1) (gone_legal rows start left wide sifted.0 (turned sifted first) sifted.2 ends.0))

    pub turn_down : (all : All (λ s. s < length rows) left) → (new : List ℕ) → IsDownStep rows left new → IsGone rows start new wide g
    turn_down all new step = subst (IsGone rows start new wide) low_is (gone_down rows start left wide sifted.0 (turned sifted first) new all step)
