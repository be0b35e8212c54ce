-- What one turn of a refinement tells of the rules.
use Rattle.cover_merge.proofs.Common.{All, All-cons, All-filter, All-map, All-nil, AllPairs, AllPairs-filter, Block, Bool, IsDownStep, IsFirstMetFrom, IsLastFailing, IsLegal, IsMergeSet, IsNarrowed}
use Rattle.cover_merge.proofs.Common.{IsOneRoute, IsSound, IsTrue, IsUpStep, List, Option, PassesDownCheck, PassesUp, PassesUpCheck, Row, SameRoute, Wants, [], and_parts, ap, arith, bit_and, bit_at}
use Rattle.cover_merge.proofs.Common.{bit_at-lt, bit_at_above, cases_lt, cases_order, cond, count_by-le-length, eqb-false, eqb-true, false, filter, generality, get_or, has_row, inl, inr, insert_place}
use Rattle.cover_merge.proofs.Common.{keeps, kept_by, length, length-filter, map, merge_of-is_merge, merged_block, not, not-true, option_map_or, place_for, refl, rows_at, shr_and_one}
use Rattle.cover_merge.proofs.Common.{slice_get-get_or, subst, suc, sym, true, true_from_ne_false, ℕ, ◌-◌, ◌/◌, ◌<◌, ◌==◌, ◌^◌, ◌↔◌, ◌∙◌, ◌∷◌, ◌≡◌, ◌≢◌, ◌≤◌, ◌⊎◌}
use Rattle.cover_merge.specs.Refinement.{can_choose, parts}
use Rattle.cover_merge.proofs.{Legal.legal_from_checks, Answering.fails, Positions.has-at, Positions.has-place, Positions.All-has, Positions.rows_at-from, Positions.rows_at-length}
use Rattle.cover_merge.proofs.Positions.{some_blocks}

-- ---- the tests of bits

pub parts_off : (b met : Block) (i : ℕ) → bit_and (b.mask / 2 ^ i) 1 ≡ 0 → false ≡ parts b met i
unfolding parts
parts_off b met i off = let zero_bit : bit_at b.mask i ≡ 0 = sym (shr_and_one b.mask i) ∙ off in rw zero_bit refl

pub parts_high : (b met : Block) (i : ℕ) → 32 ≤ i → false ≡ parts b met i
unfolding parts
parts_high b met i high = let zero_bit : bit_at b.mask i ≡ 0 = bit_at_above b.mask 32 i b.small high in rw zero_bit refl

pub parts_on : (b met : Block) (i : ℕ) → bit_and (b.mask / 2 ^ i) 1 ≢ 0 → not (bit_and (b.key / 2 ^ i) 1 == bit_and (met.key / 2 ^ i) 1) ≡ parts b met i
unfolding parts
parts_on b met i on = grind (arith, shr_and_one b.mask i, bit_at-lt b.mask i, shr_and_one b.key i, shr_and_one met.key i)

-- a bit that can be chosen is one for which the merge does not care
pub chosen_off : (merged met : Block) (i : ℕ) → can_choose merged met i ≡ true → bit_at merged.mask i ≡ 0
unfolding can_choose
chosen_off merged met i chosen = eqb-true (bit_at merged.mask i) 0 (and_parts (bit_at merged.mask i == 0) (bit_at met.mask i == 1) chosen).0

-- a block that the bit parts wants the other value there
pub parts_wants : (b met : Block) (i : ℕ) → parts b met i ≡ true → Wants b i (1 - bit_at met.key i)
unfolding parts
parts_wants b met i h = grind (arith, and_parts, eqb-false, not-true, eqb-true, bit_at-lt)

pub keeps_inside : (rows : List Row) (met : Block) (i s : ℕ) (d : Row) → s < length rows → parts (get_or rows s d).block met i ≡ keeps rows met i s
keeps_inside rows met i s d within = sym (ap (λ (o : Option Row). option_map_or (λ (r : Row). parts r.block met i) o false) (slice_get-get_or rows s d within))

-- ---- a step is shorter

-- a filter drops something, or keeps all
pub drops_or_keeps : (p : ℕ → Bool) (xs : List ℕ) → (length (filter p xs) < length xs) ⊎ (All (λ x. p x ≡ true) xs)
drops_or_keeps p [] = inr (All-nil (λ x. p x ≡ true))
drops_or_keeps p (x ∷ xs) = by_head (p x) refl (drops_or_keeps p xs)
  where
    by_head : (b : Bool) → p x ≡ b → (length (filter p xs) < length xs) ⊎ (All (λ y. p y ≡ true) xs) → (length (cond b (x ∷ filter p xs) (filter p xs)) < suc (length xs)) ⊎ (All (λ y. p y ≡ true) (x ∷ xs))
    by_head b e its_2 = grind (arith, length-filter, count_by-le-length, All-cons)

-- a bit cannot keep all places: the merge would care for it
pub narrowed_shorter : (rows : List Row) (old new : List ℕ) (met : Block) → IsMergeSet rows old → IsNarrowed rows old (merged_block rows old) met new → length new < length old
narrowed_shorter rows old new met set (inr none) = rw none.1 (omega (arith, set.two))
narrowed_shorter rows old new met set (inl (i, low, best, is)) = rw is (elim (drops_or_keeps (keeps rows met i) old) [
  | inl less ↦ less
  | inr all ↦ absurd (all_kept all (true_from_ne_false (can_choose (merged_block rows old) met i) (λ e. omega (arith, subst (λ b. 0 < cond b (length (kept_by rows met i old)) 0) e best.some))))
])
  where
    all_kept : All (λ s. keeps rows met i s ≡ true) old → can_choose (merged_block rows old) met i ≡ true → ⊥
    all_kept all chosen =
        let wants : All (λ (r : Row). Wants r.block i (1 - bit_at met.key i)) (rows_at rows old) =
        rows_at-from (λ (r : Row). Wants r.block i (1 - bit_at met.key i)) rows old (λ s d found.
        parts_wants (get_or rows s d).block met i
        (keeps_inside rows met i s d (All-has (λ x. x < length rows) old s set.set.in_range found) ∙ All-has (λ x. keeps rows met i x ≡ true) old s all found)) in
        let some : 0 < length (map (λ (x : Row). x.block) (rows_at rows old)) = some_blocks (rows_at rows old) (omega (arith, rows_at-length rows old set.set.in_range, set.two)) in
        let merged = (merge_of-is_merge (map (λ (x : Row). x.block) (rows_at rows old)) some i (1 - bit_at met.key i)).1 (All-map (λ b. Wants b i (1 - bit_at met.key i)) (λ (x : Row). x.block) (rows_at rows old) wants) in
        let off = chosen_off (merged_block rows old) met i chosen in omega (arith, off, merged.cares)

-- ---- the steps

module _ (rows : List Row) (old : List ℕ) (merged : Block) (is : merged ≡ merged_block rows old) (g p : ℕ) (general : g ≡ generality merged) (place : p ≡ place_for rows g) where
  place_is : p ≡ insert_place rows old
  place_is = place ∙ ap (place_for rows) (general ∙ ap generality is)

  pub down_step : IsMergeSet rows old → PassesUpCheck rows old → (met : Block) → IsFirstMetFrom rows merged p met → (new : List ℕ) → IsNarrowed rows old merged met new → (IsDownStep rows old new) × (length new < length old)
  down_step set up met first new narrowed =
      let narrowed_here = subst (λ b. IsNarrowed rows old b met new) is narrowed in (
        record {
          up = up;
          met = met;
          first = subst (λ b. IsFirstMetFrom rows b (insert_place rows old) met) is (subst (λ q. IsFirstMetFrom rows merged q met) place_is first);
          narrowed = narrowed_here;
        },
        narrowed_shorter rows old new met set narrowed_here,
      )

-- ---- the greatest place that fails

pub last_found : (rows : List Row) (places : List ℕ) (p i : ℕ) (b : Bool) → AllPairs (λ s t. s < t) places → 0 < i → i ≤ length places
    → ((k : ℕ) → i ≤ k → k < length places → PassesUp rows places (get_or places k 0) p)
    → (IsTrue b) ↔ (PassesUp rows places (get_or places (i - 1) 0) p) → b ≡ false → IsLastFailing rows places p (get_or places (i - 1) 0)
last_found rows places p i b ascending some within behind tells came = record {
  member = has-at places (i - 1) (omega arith);
  failing = fails (PassesUp rows places (get_or places (i - 1) 0) p) b tells came;
  behind = λ t found less.
      let at = has-place places t found in
      subst (λ x. PassesUp rows places x p) at.2 (behind at.0 (elim (cases_order at.0 (i - 1)) [
        | inl here ↦ absurd (omega (arith, less, at.2, ap (λ n. get_or places n 0) here))
        | inr (inl earlier) ↦ absurd (omega (arith, less, at.2, ascending at.0 (i - 1) 0 earlier (omega arith)))
        | inr (inr later) ↦ omega (arith, later)
      ]) at.1);
}

pub last_more : (rows : List Row) (places : List ℕ) (p i : ℕ) (b : Bool) → 0 < i
    → ((k : ℕ) → i ≤ k → k < length places → PassesUp rows places (get_or places k 0) p)
    → (IsTrue b) ↔ (PassesUp rows places (get_or places (i - 1) 0) p) → b ≡ true
    → (k : ℕ) → i - 1 ≤ k → k < length places → PassesUp rows places (get_or places k 0) p
last_more rows places p i b some behind tells came k from within = elim (cases_lt k i) [
  | inl here ↦ let same : i - 1 ≡ k = omega arith in subst (λ x. PassesUp rows places (get_or places x 0) p) same (tells.0 came)
  | inr later ↦ behind k later within
]

pub none_fails : (rows : List Row) (places : List ℕ) (p i : ℕ) → i ≤ 0 → ((k : ℕ) → i ≤ k → k < length places → PassesUp rows places (get_or places k 0) p) → (s : ℕ) → has_row places s ≡ true → PassesUp rows places s p
none_fails rows places p i done behind s found = let at = has-place places s found in subst (λ x. PassesUp rows places x p) at.2 (behind at.0 (omega arith) at.1)

-- ---- the rounds

-- a set after a step is still one of one route
module _ (rows : List Row) (old : List ℕ) (set : IsOneRoute rows old) where
  filtered : (p : ℕ → Bool) → IsOneRoute rows (filter p old)
  filtered p = record {
    ascending = AllPairs-filter (λ s t. s < t) p old set.ascending;
    in_range = All-filter p (λ s. s < length rows) old set.in_range;
    one_route = AllPairs-filter (SameRoute rows) p old set.one_route;
  }

  emptied : IsOneRoute rows []
  emptied = grind (arith, All-nil)

  pub one_route_after : (new : List ℕ) → (IsUpStep rows old new) ⊎ (IsDownStep rows old new) → IsOneRoute rows new
  one_route_after new (inl step) = subst (IsOneRoute rows) (sym step.result) (filtered (λ t. not (t == step.place)))
  one_route_after new (inr step) = elim step.narrowed [
    | inl kept ↦ subst (IsOneRoute rows) (sym kept.3) (filtered (keeps rows step.met kept.0))
    | inr none ↦ subst (IsOneRoute rows) (sym none.1) emptied
  ]

  pub legal_here : IsSound rows → 2 ≤ length old → (new answer : List ℕ) → (PassesUpCheck rows old) × (PassesDownCheck rows old) × (new ≡ old) → answer ≡ new → (IsMergeSet rows answer) × (IsLegal rows answer)
  legal_here sound two new answer both is =
      subst (λ a. (IsMergeSet rows a) × (IsLegal rows a)) (sym (is ∙ both.2)) (record { set = set; two = two }, legal_from_checks rows old sound set.in_range both.0 both.1)
