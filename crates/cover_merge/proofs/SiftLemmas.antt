-- Places taken out one after another, the greatest first.
use Rattle.cover_merge.proofs.Common.{All, All-drop, All-filter, All-head, All-tail, AllPairs, AreAlikeBehind, Block, Bool, IsLastFailing, IsOneRoute, IsOrdered, IsTrue, IsUpStep, List, PassesUp}
use Rattle.cover_merge.proofs.Common.{PassesUpCheck, Row, [], any-filter_same, ap, arith, cases_lt, cond, drop, eq-eqb, eqb-true, false_from_ne_true, filter, generality, get_or, get_or-remove_above}
use Rattle.cover_merge.proofs.Common.{get_or-take, get_or_append_left, get_or_default, get_or_push, has_row, inl, inr, insert_place, length, length-append, length-take, list_any-append, merge_rows}
use Rattle.cover_merge.proofs.Common.{merged_block, ne_eqb, not, place_for, refl, remove, set, set_without, subst, suc, sym, take, take-append-drop, take-take, take_rest, true, true≢false, zero, ℕ}
use Rattle.cover_merge.proofs.Common.{◌++◌, ◌+◌, ◌-◌, ◌<◌, ◌==◌, ◌↔◌, ◌∙◌, ◌∷◌, ◌≡◌, ◌≢◌, ◌≤◌}
use Rattle.cover_merge.proofs.{ApplyLemmas.none_from, KeptLemmas.fewer_lies, Positions.all_of, Positions.has-at, Positions.place_for-above, Positions.place_for-below, Positions.place_for-le}
use Rattle.cover_merge.proofs.{Lists.AllPairs-head, Lists.AllPairs-tail, RivalLemmas.one_route}

-- ---- merges of the first places

pub merges_more : (rows : List Row) (set : List ℕ) (done : List Block) (k : ℕ) (n : Block) → length done ≡ k → ((j : ℕ) (d : Block) → j < length done → get_or done j d ≡ merged_block rows (take (j + 1) set)) → n ≡ merged_block rows (take (k + 1) set)
    → (j : ℕ) (d : Block) → j < length (done ++ n ∷ []) → get_or (done ++ n ∷ []) j d ≡ merged_block rows (take (j + 1) set)
merges_more rows set done k n many each now j d inside = grind (arith, length-append done (n ∷ []), cases_lt j (length done), get_or_append_left, get_or_push)

-- ---- a place taken out

all_other : (s : ℕ) (xs : List ℕ) → All (λ t. s < t) xs → filter (λ t. not (t == s)) xs ≡ xs
all_other s [] above = refl
all_other s (x ∷ xs) above =
    ap (λ b. cond (not b) (x ∷ filter (λ t. not (t == s)) xs) (filter (λ t. not (t == s)) xs)) (ne_eqb x s (λ same. omega (arith, same, All-head (λ t. s < t) x xs above)))
    ∙ ap (λ l. x ∷ l) (all_other s xs (All-tail (λ t. s < t) x xs above))

-- the set without the place at an index is the list without its item
pub without_at : (xs : List ℕ) (i : ℕ) → AllPairs (λ s t. s < t) xs → i < length xs → set_without (get_or xs i 0) xs ≡ remove xs i
without_at [] i ascending within = absurd (omega arith)
without_at (x ∷ xs) zero ascending within =
    ap (λ b. cond (not b) (x ∷ filter (λ t. not (t == x)) xs) (filter (λ t. not (t == x)) xs)) (eq-eqb x x refl) ∙ all_other x xs (AllPairs-head (λ s t. s < t) x xs ascending)
without_at (x ∷ xs) (suc i) ascending within =
    ap (λ b. cond (not b) (x ∷ set_without (get_or xs i 0) xs) (set_without (get_or xs i 0) xs))
    (ne_eqb x (get_or xs i 0) (λ same. omega (arith, same, AllPairs-head (λ s t. s < t) x xs ascending i 0 (omega arith))))
    ∙ ap (λ l. x ∷ l) (without_at xs i (AllPairs-tail (λ s t. s < t) x xs ascending) (omega arith))

-- a place other than that taken out stays
stays : (s r : ℕ) (xs : List ℕ) → (r ≡ s → ⊥) → has_row xs r ≡ true → has_row (set_without s xs) r ≡ true
stays s r xs differ found = any-filter_same (λ t. t == r) (λ t. not (t == s)) true (λ t is. ap not (ne_eqb t s (λ same. differ (sym (eqb-true t r is) ∙ same)))) xs ∙ found

place_mono : (rows : List Row) (g h : ℕ) → IsOrdered rows → g ≤ h → place_for rows g ≤ place_for rows h
place_mono rows g h ordered le = elim (cases_lt (place_for rows h) (place_for rows g)) [
  | inr not_less ↦ not_less
  | inl less ↦
      let q = place_for rows h in
      let d : Row = merge_rows [] in
      let low = place_for-below rows g ordered q d less in
      absurd (omega (arith, place_for-above rows h ordered q d (omega (arith, less, place_for-le rows g)) (omega (arith, low, le))))
]

-- a place behind that taken out still passes the up-check, with a merge no more general
still_passes : (rows : List Row) (set : List ℕ) (s t p q : ℕ) → s < t → q ≤ p → PassesUp rows set t p → PassesUp rows (set_without s set) t q
still_passes rows set s t p q less le up r after before d outside =
    up r after (omega (arith, before, le)) d (false_from_ne_true (has_row set r) (λ found. true≢false (sym (stays s r set (λ same. omega (arith, same, less, after)) found) ∙ outside)))

module _ (rows : List Row) (set : List ℕ) (one : IsOneRoute rows set) (ordered : IsOrdered rows) (merged : Block) (is : merged ≡ merged_block rows set) (g : ℕ) (general : g ≡ generality merged) where
  place_is : place_for rows g ≡ insert_place rows set
  place_is = ap (place_for rows) (general ∙ ap generality is)

  pub all_pass : ((s : ℕ) → IsTrue (has_row set s) → PassesUp rows set s (place_for rows g)) → PassesUpCheck rows set
  all_pass passes s found = subst (PassesUp rows set s) place_is (passes s found)

  module _ (i : ℕ) (inside : i < length set) (last : IsLastFailing rows set (place_for rows g) (get_or set i 0)) (new : List ℕ) (now : new ≡ remove set i) (count : length new + 1 ≡ length set) (two : 2 ≤ length set) where
    without_is : new ≡ set_without (get_or set i 0) set
    without_is = now ∙ sym (without_at set i one.ascending inside)

    pub sift_step : IsUpStep rows set new
    sift_step = record { place = get_or set i 0; last = subst (λ p. IsLastFailing rows set p (get_or set i 0)) place_is last; result = without_is }

    pub sift_behind : (m : Block) → m ≡ merged_block rows new → (h : ℕ) → h ≡ generality m → (k : ℕ) → i ≤ k → k < length new → PassesUp rows new (get_or new k 0) (place_for rows h)
    sift_behind m m_is h h_is k from within =
        let s = get_or set i 0 in
        let t = get_or set (k + 1) 0 in
        let later : k + 1 < length set = omega (arith, within, count) in
        let at : get_or set (k + 1) 0 ≡ get_or new k 0 = sym (ap (λ l. get_or l k 0) now ∙ get_or-remove_above set i 0 k from inside) in
        let less : s < t = one.ascending i (k + 1) 0 (omega (arith, from)) later in
        let some : 0 < length (set_without s set) = subst (λ l. 0 < length l) without_is (omega (arith, count, two)) in
        let low : generality (merged_block rows (set_without s set)) ≤ generality (merged_block rows set) =
        (fewer_lies rows (set_without s set) set one.in_range some (All-filter (λ x. not (x == s)) (λ t. has_row set t ≡ true) set (all_of set))).1 in
        let mine : h ≡ generality (merged_block rows (set_without s set)) = h_is ∙ ap generality (m_is ∙ ap (merged_block rows) without_is) in
        let theirs : g ≡ generality (merged_block rows set) = general ∙ ap generality is in
        let le : place_for rows h ≤ place_for rows g = place_mono rows h g ordered (omega (arith, low, mine, theirs)) in
        subst (λ x. PassesUp rows new x (place_for rows h)) at
        (subst (λ l. PassesUp rows l t (place_for rows h)) (sym without_is) (still_passes rows set s t (place_for rows g) (place_for rows h) less le (last.behind t (has-at set (k + 1) later) less)))

-- ---- one place, asked with those behind it

module _ (rows : List Row) (xs : List ℕ) (one : IsOneRoute rows xs) (k : ℕ) (inside : k < length xs) where
  abbrev s : ℕ
  s = get_or xs k 0

  abbrev behind : List ℕ
  behind = take (length xs - (k + 1)) (drop (k + 1) xs)

  -- the places up to it are no greater
  low : (r : ℕ) → s < r → All (λ t. t < r) (take (k + 1) xs)
  low r less j e within =
      let long = length-take (k + 1) xs in
      let at : get_or (take (k + 1) xs) j e ≡ get_or xs j 0 = get_or-take (k + 1) xs j e (omega (arith, within, long)) ∙ get_or_default xs j e 0 (omega (arith, within, long, inside)) in
      elim (cases_lt j k) [
        | inl before ↦ omega (arith, at, less, one.ascending j k 0 before inside)
        | inr from ↦ let same : j ≡ k = omega (arith, from, within, long) in omega (arith, at, less, ap (λ n. get_or xs n 0) same)
      ]

  only_behind : (r : ℕ) → s < r → has_row xs r ≡ has_row behind r
  only_behind r less = grind (arith, take-append-drop (k + 1) xs, low r less, take_rest xs (k + 1), low, list_any-append, none_from)

  -- it is a row's place, and those behind have its route
  pub alike_behind : AreAlikeBehind rows behind s
  alike_behind = record {
    inside = one.in_range k 0 inside;
    one_route = λ r less found. one_route rows xs one s r (has-at xs k inside) (only_behind r less ∙ found) less;
    in_range = subst (All (λ x. x < length rows)) (sym (take_rest xs (k + 1))) (All-drop (λ x. x < length rows) (k + 1) xs one.in_range);
  }

  -- its up-check by those behind is that by all
  pub passes_behind : (p : ℕ) (t : Bool) → (IsTrue t) ↔ (PassesUp rows behind s p) → (IsTrue t) ↔ (PassesUp rows xs s p)
  passes_behind p t tells = (
    λ came r after before e outside. tells.0 came r after before e (sym (only_behind r after) ∙ outside),
    λ up. tells.1 (λ r after before e outside. up r after before e (only_behind r after ∙ outside)),
  )

-- ---- what is left of a set

-- what begins alike begins alike up to less
pub begins_less : (n i : ℕ) (xs start : List ℕ) → n ≤ i → take i xs ≡ take i start → take n xs ≡ take n start
begins_less n i xs start le same = sym (take-take n i xs le) ∙ ap (take n) same ∙ take-take n i start le
