-- What a chosen merge keeps: soundness and the served blocks; and that each merge makes the table shorter.
use Rattle.cover_merge.proofs.Common.{Alias, All, All-cons, All-contains_itself, All-head, All-nil, All-tail, AllPairs, Bool, Contains, Covers, HasNoChosen, HasRoutesOf, IsChosen, IsLegal, IsMergeSet}
use Rattle.cover_merge.proofs.Common.{IsOneRoute, IsOrdered, IsPermutation, IsPermutation-append_comm, IsPermutation-append_left, IsPermutation-append_right, IsPermutation-refl, IsPermutation-trans}
use Rattle.cover_merge.proofs.Common.{IsSound, List, Merge, Original, Refines, Route, Row, SameRoute, [], after, ap, append-nil, append_assoc, arith, cases_eq, cond, cons_option, drop, ends_empty}
use Rattle.cover_merge.proofs.Common.{ends_legal, eq-eqb, flat_map, flat_map-append, generality, get_or, get_or_default, goes_down, goes_up, has_row, inl, inr, insert_place, kept, length}
use Rattle.cover_merge.proofs.Common.{length-append, length-take, map, map-append, merge_rows, merged, merged_block, merged_row, ne_eqb, not, picked, places_of, refl, rows_at, served, served_by}
use Rattle.cover_merge.proofs.Common.{sets_of, short, slice_get, slice_get-get_or, stuck, subst, suc, sym, take, take-append-drop, ℕ, ◌++◌, ◌+◌, ◌<◌, ◌^◌, ◌||◌, ◌∙◌, ◌∷◌, ◌≡◌, ◌≤◌, ◌⊎◌}
use Rattle.cover_merge.proofs.{KeptLemmasMoved.all_after, Lists.cond_same, Lists.All-from_map, Lists.AllPairs-head, Lists.AllPairs-tail, ApplyLemmas.none_at, ApplyLemmas.picked-append}
use Rattle.cover_merge.proofs.{ApplyLemmas.route_is, Positions.rows_at-length, Positions.has-place, Positions.rows_at-from, Positions.place_for-le, RefineLemmas.one_route_after}
use Rattle.cover_merge.proofs.{RefineLemmas.legal_here, ChooseLemmas.places_of-one_route}

-- ---- a chosen merge is legal

-- what a refinement ends in is empty or legal
pub refined_legal : (rows : List Row) (places answer : List ℕ) → IsSound rows → IsOneRoute rows places → Refines rows places answer → (answer ≡ []) ⊎ ((IsMergeSet rows answer) × (IsLegal rows answer))
refined_legal rows places answer sound set (ends_empty p few) = inl refl
refined_legal rows places answer sound set (ends_legal p two up down) = inr (legal_here rows p set sound two p p (up, down, refl) refl)
refined_legal rows places answer sound set (goes_up p next a two step rest) = refined_legal rows next a sound (one_route_after rows p set next (inl step)) rest
refined_legal rows places answer sound set (goes_down p next a two step rest) = refined_legal rows next a sound (one_route_after rows p set next (inr step)) rest

pub chosen_legal : (rows : List Row) (set : List ℕ) → IsSound rows → IsChosen rows set → (IsMergeSet rows set) × (IsLegal rows set)
chosen_legal rows set sound (inl largest) =
    grind (arith, refined_legal rows (places_of largest.bits 0 rows) set sound (places_of-one_route largest.bits rows) largest.refined, places_of-one_route largest.bits rows)
chosen_legal rows set sound (inr found) = subst (λ s. (IsMergeSet rows s) × (IsLegal rows s)) (sym found.1.pair) (found.1.legal.set, found.1.legal.legal)

-- ---- what stays and what goes

-- where two tests are one from a place on, they pick the same
picked_same : {X : Type 0} (f g : ℕ → Bool) (i : ℕ) (xs : List X) → ((k : ℕ) → i ≤ k → f k ≡ g k) → picked f i xs ≡ picked g i xs
picked_same f g i [] same = refl
picked_same f g i (x ∷ xs) same =
    ap (λ b. cond b (x ∷ picked f (suc i) xs) (picked f (suc i) xs)) (same i (omega arith)) ∙ ap (λ l. cond (g i) (x ∷ l) l) (picked_same f g (suc i) xs (λ k from. same k (omega (arith, from))))

-- rows at places in ascending order are those that a list of places picks
rows_picked : (rows : List Row) (i : ℕ) (xs : List Row) (places : List ℕ) → ((k j : ℕ) → j ≡ i + k → slice_get rows j ≡ slice_get xs k) → AllPairs (λ s t. s < t) places
    → All (λ s. (i ≤ s) × (s < i + length xs)) places → rows_at rows places ≡ picked (has_row places) i xs
rows_picked rows i [] [] at ascending within = refl
rows_picked rows i [] (s ∷ rest) at ascending within = let low = within 0 s (omega arith) in absurd (omega (arith, low.0, low.1))
rows_picked rows i (x ∷ xs) [] at ascending within = rows_picked rows (suc i) xs [] (λ k j is. at (suc k) j (omega (arith, is))) ascending (All-nil (λ s. (suc i ≤ s) × (s < suc i + length xs)))
rows_picked rows i (x ∷ xs) (s ∷ rest) at ascending within =
    let low = within 0 s (omega arith) in
    let above = AllPairs-head (λ s t. s < t) s rest ascending in
    let behind : (k j : ℕ) → j ≡ suc i + k → slice_get rows j ≡ slice_get xs k = λ k j is. at (suc k) j (omega (arith, is)) in
    let picks : ℕ → List Row = λ j. picked (has_row (s ∷ rest)) j xs in
    elim (cases_eq s i) [
      | inl same ↦
          ap (λ o. cons_option o (rows_at rows rest)) (at 0 s (omega (arith, same)))
          ∙ ap (λ l. x ∷ l) (rows_picked rows (suc i) xs rest behind (AllPairs-tail (λ s t. s < t) s rest ascending) (λ k d inside.
          (omega (arith, same, above k d inside), omega (arith, (All-tail (λ t. (i ≤ t) × (t < i + suc (length xs))) s rest within k d inside).1)))
          ∙ picked_same (has_row rest) (has_row (s ∷ rest)) (suc i) xs (λ k from. sym (ap (λ b. b || has_row rest k) (ne_eqb s k (λ is. omega (arith, is, same, from))))))
          ∙ sym (ap (λ b. cond (b || has_row rest i) (x ∷ picks (suc i)) (picks (suc i))) (eq-eqb s i same))
      | inr apart ↦
          let strict : All (λ t. i < t) (s ∷ rest) = All-cons (λ t. i < t) s rest (omega (arith, low.0, apart)) (λ k d inside. omega (arith, low.0, above k d inside)) in
          rows_picked rows (suc i) xs (s ∷ rest) behind ascending (λ k d inside. (omega (arith, strict k d inside), omega (arith, (within k d inside).1)))
          ∙ sym (ap (λ b. cond b (x ∷ picks (suc i)) (picks (suc i))) (none_at (s ∷ rest) i strict))
    ]

-- what is picked and what is not are all
module _ {X : Type 0} (q : ℕ → Bool) where
  pub both_picked : (i : ℕ) (xs : List X) → length (picked q i xs) + length (picked (λ k. not (q k)) i xs) ≡ length xs
  both_picked i [] = refl
  both_picked i (x ∷ xs) =
      let rest = both_picked (suc i) xs in
      let a = picked q (suc i) xs in
      let b = picked (λ k. not (q k)) (suc i) xs in
      cond_same (λ c. length (cond c (x ∷ a) a) + length (cond (not c) (x ∷ b) b) ≡ suc (length xs)) (q i) (omega (arith, rest)) (omega (arith, rest))

-- the first of three lists goes behind the second
swapped : {X : Type 0} (a b c : List X) → IsPermutation (a ++ (b ++ c)) (b ++ (a ++ c))
swapped a b c = subst (λ l. IsPermutation l (b ++ (a ++ c))) (append_assoc a b c)
    (subst (IsPermutation ((a ++ b) ++ c)) (append_assoc b a c) (IsPermutation-append_left c (a ++ b) (b ++ a) (IsPermutation-append_comm a b)))

-- what is picked serves what it did, and so does what is not
served_parts : (q : ℕ → Bool) (i : ℕ) (xs : List Row) → IsPermutation (served xs) (served (picked q i xs) ++ served (picked (λ k. not (q k)) i xs))
served_parts q i [] = IsPermutation-refl (served [])
served_parts q i (x ∷ xs) =
    let l = picked q (suc i) xs in
    let r = picked (λ k. not (q k)) (suc i) xs in
    let first = served_by x in
    let rest : IsPermutation (first ++ served xs) (first ++ (served l ++ served r)) = IsPermutation-append_right first (served xs) (served l ++ served r) (served_parts q (suc i) xs) in
    cond_same (λ c. IsPermutation (first ++ served xs) (served (cond c (x ∷ l) l) ++ served (cond (not c) (x ∷ r) r))) (q i)
    (subst (IsPermutation (first ++ served xs)) (sym (append_assoc first (served l) (served r))) rest)
    (IsPermutation-trans (first ++ served xs) (first ++ (served l ++ served r)) (served l ++ (first ++ served r)) rest (swapped first (served l) (served r)))

module _ (rows : List Row) (places : List ℕ) (ascending : AllPairs (λ s t. s < t) places) (in_range : All (λ s. s < length rows) places) where
  -- the served blocks are those of the set and those of the rest
  pub served_out : IsPermutation (served rows) (served (rows_at rows places) ++ served (kept places 0 rows))
  served_out = grind (arith, served_parts (has_row places) 0 rows, rows_picked)

  -- each place takes one row out
  pub length_out : length places + length (kept places 0 rows) ≡ length rows
  length_out = grind (arith, both_picked (has_row places) 0 rows, rows_at-length rows places in_range, rows_picked)

-- ---- the merge serves what its members serve

served_alike : (route : Route) (rows : List Row) → All (λ (x : Row). x.route ≡ route) rows
    → map (λ (a : Alias). let o : Original = record { block = a.block; port = a.port; route = route } in o) (flat_map (λ (x : Row). x.aliases) rows) ≡ served rows
served_alike route [] all = refl
served_alike route (r ∷ rows) all =
    let mark = λ (ρ : Route). λ (a : Alias). let o : Original = record { block = a.block; port = a.port; route = ρ } in o in
    map-append (mark route) r.aliases (flat_map (λ (x : Row). x.aliases) rows)
    ∙ ap (λ l. map (mark route) r.aliases ++ l) (served_alike route rows (All-tail (λ (x : Row). x.route ≡ route) r rows all))
    ∙ ap (λ ρ. map (mark ρ) r.aliases ++ served rows) (sym (All-head (λ (x : Row). x.route ≡ route) r rows all))

pub served_merged : (rows : List Row) (places : List ℕ) → IsMergeSet rows places → served_by (merged_row rows places) ≡ served (rows_at rows places)
served_merged rows [] set = absurd (omega (arith, set.two))
served_merged rows (s ∷ rest) set =
    let within : s < length rows = All-head (λ x. x < length rows) s rest set.set.in_range in
    let d : Row = merge_rows [] in
    let r = get_or rows s d in
    let rows_are : rows_at rows (s ∷ rest) ≡ r ∷ rows_at rows rest = ap (λ o. cons_option o (rows_at rows rest)) (slice_get-get_or rows s d within) in
    let alike : All (λ (x : Row). x.route ≡ r.route) (rows_at rows rest) =
    rows_at-from (λ (x : Row). x.route ≡ r.route) rows rest (λ t e found.
    let at = has-place rest t found in
    let same : (get_or rows s e).route ≡ (get_or rows (get_or rest at.0 0) e).route = AllPairs-head (SameRoute rows) s rest set.set.one_route at.0 0 at.1 e in
    ap (λ n. (get_or rows n e).route) (sym at.2) ∙ sym same ∙ ap (λ (x : Row). x.route) (get_or_default rows s e d within)) in
    ap (λ l. served_by (merge_rows l)) rows_are
    ∙ served_alike r.route (r ∷ rows_at rows rest) (All-cons (λ (x : Row). x.route ≡ r.route) r (rows_at rows rest) refl alike)
    ∙ sym (ap served rows_are)

-- ---- the table after a merge serves the same blocks, and is shorter

module _ (rows : List Row) (places : List ℕ) (set : IsMergeSet rows places) where
  kept_parts : kept places 0 rows ≡ kept places 0 (take (insert_place rows places) rows) ++ kept places (insert_place rows places) (drop (insert_place rows places) rows)
  kept_parts = grind (arith, length-take (insert_place rows places) rows, place_for-le rows (generality (merged_block rows places)), take-append-drop (insert_place rows places) rows, picked-append)

  pub served_after : IsPermutation (served rows) (served (after rows places))
  served_after =
      let p = insert_place rows places in
      let m = merged_row rows places in
      let a = kept places 0 (take p rows) in
      let b = kept places p (drop p rows) in
      let split : served (after rows places) ≡ served a ++ (served_by m ++ served b) = flat_map-append served_by a (m ∷ b) in
      let rest : served (kept places 0 rows) ≡ served a ++ served b = ap served kept_parts ∙ flat_map-append served_by a b in
      let before : IsPermutation (served rows) (served_by m ++ (served a ++ served b)) =
      subst (λ l. IsPermutation (served rows) (served_by m ++ l)) rest
      (subst (λ l. IsPermutation (served rows) (l ++ served (kept places 0 rows))) (sym (served_merged rows places set)) (served_out rows places set.set.ascending set.set.in_range)) in
      subst (IsPermutation (served rows)) (sym split)
      (IsPermutation-trans (served rows) (served_by m ++ (served a ++ served b)) (served a ++ (served_by m ++ served b)) before (swapped (served_by m) (served a) (served b)))

  pub shorter : length (after rows places) < length rows
  shorter =
      let p = insert_place rows places in
      let a = kept places 0 (take p rows) in
      let b = kept places p (drop p rows) in
      omega (arith, set.two, length_out rows places set.set.ascending set.set.in_range, ap length kept_parts, length-append a b, length-append a (merged_row rows places ∷ b))

  -- no other route comes
  pub routes_after : IsOrdered rows → (start : List Row) → HasRoutesOf start rows → HasRoutesOf start (after rows places)
  routes_after ordered start from =
      let d : Row = merge_rows [] in
      let some : 0 < length places = omega (arith, set.two) in
      all_after rows places ordered set.set.in_range (λ (r : Row). Contains (map (λ (x : Row). x.route) start) r.route)
      (subst (Contains (map (λ (x : Row). x.route) start)) (sym (route_is rows places d set.set.in_range some)) (from (get_or places 0 0) d (set.set.in_range 0 0 some))) from

-- ---- one merge after another

-- a table has its own routes
pub routes_own : (rows : List Row) → HasRoutesOf rows rows
routes_own rows = All-from_map (Contains (map (λ (x : Row). x.route) rows)) (λ (x : Row). x.route) rows (All-contains_itself (map (λ (x : Row). x.route) rows))

-- what covering keeps from one merge to the next
pub record IsCoveredSoFar (target : ℕ) (start now : List Row) (merges : List Merge) : Type 0 where
  pub few : length now < 2 ^ 32
  pub no_more : length now ≤ length start
  pub routes : HasRoutesOf start now
  pub sound : IsSound now
  pub goes_on : (sets : List (List ℕ)) (covered : List Row) → Covers target now sets covered → Covers target start (sets_of merges ++ sets) covered
  pub serves : IsPermutation (served start) (served now)

pub so_far_more : (target : ℕ) (start now new : List Row) (merges : List Merge) (m : Merge) → IsCoveredSoFar target start now merges → target < length now → IsChosen now m.places → new ≡ after now m.places
    → IsCoveredSoFar target start new (merges ++ m ∷ [])
so_far_more target start now new merges m so_far more chosen is =
    let legal = chosen_legal now m.places so_far.sound chosen in
    subst (λ l. IsCoveredSoFar target start l (merges ++ m ∷ [])) (sym is) (record {
      few = omega (arith, shorter now m.places legal.0, so_far.few);
      no_more = omega (arith, shorter now m.places legal.0, so_far.no_more);
      routes = routes_after now m.places legal.0 so_far.sound.ordered start so_far.routes;
      sound = legal.1;
      goes_on = λ sets covered h. subst (λ l. Covers target start l covered)
          (sym (ap (λ l. l ++ sets) (map-append (λ (x : Merge). x.places) merges (m ∷ [])) ∙ append_assoc (sets_of merges) (m.places ∷ []) sets)) (so_far.goes_on (m.places ∷ sets) covered (merged now m.places sets covered more chosen h));
      serves = IsPermutation-trans (served start) (served now) (served (after now m.places)) so_far.serves (served_after now m.places legal.0);
    })

pub chosen_shorter : (now new : List Row) (set : List ℕ) → IsSound now → IsChosen now set → new ≡ after now set → length new < length now
chosen_shorter now new set sound chosen is = subst (λ l. length l < length now) (sym is) (shorter now set (chosen_legal now set sound chosen).0)

pub covered_short : (target : ℕ) (start now : List Row) (merges : List Merge) → IsCoveredSoFar target start now merges → length now ≤ target → Covers target start (sets_of merges) now
covered_short target start now merges so_far enough = subst (λ l. Covers target start l now) (append-nil (sets_of merges)) (so_far.goes_on [] now (short now enough))

pub covered_stuck : (target : ℕ) (start now : List Row) (merges : List Merge) → IsCoveredSoFar target start now merges → target < length now → HasNoChosen now → Covers target start (sets_of merges) now
covered_stuck target start now merges so_far more none = subst (λ l. Covers target start l now) (append-nil (sets_of merges)) (so_far.goes_on [] now (stuck now more none))
