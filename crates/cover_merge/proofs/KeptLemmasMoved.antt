-- Where the rows outside a merge stand in the table after it.
use Rattle.cover_merge.proofs.Common.{All, All-map, AllPairs, Bool, IsOrdered, List, Row, [], after, ap, arith, cases_Bool, cases_eq, cases_lt, cases_order, cond, cond_both, drop, drop-cons, false}
use Rattle.cover_merge.proofs.Common.{false_from_ne_true, generality, get_or, get_or-append_seam, get_or-insert_at, get_or-map, has_row, inl, inr, insert, insert_place, kept, length, length-append}
use Rattle.cover_merge.proofs.Common.{length-insert, length-map, length-take, map, merge_rows, merged_block, merged_row, not, not-true, not_from_false, picked, places_of, refl, subst, subst₂, suc}
use Rattle.cover_merge.proofs.Common.{sym, take, take-append-drop, true, zero, ℕ, ◌++◌, ◌+◌, ◌-◌, ◌<◌, ◌∙◌, ◌∷◌, ◌≡◌, ◌≢◌, ◌≤◌, ◌⊎◌}
use Rattle.cover_merge.proofs.{ChooseLemmas.ArePlaces, ChooseLemmas.HasBits, ChooseLemmas.are_places, ChooseLemmas.places_only, Positions.has-place, Positions.has-at, Positions.place_for-le}
use Rattle.cover_merge.proofs.ApplyLemmas.{picked-append, left, none_from, members_before, after_is, route_is}

-- ---- the place of a picked item

-- how many of the places below k pass the test
abbrev pub rank : (ℕ → Bool) → ℕ → ℕ
rank q zero = 0
rank q (suc k) = cond (q k) (suc (rank q k)) (rank q k)

module _ (q : ℕ → Bool) where
  rank_in : (k : ℕ) → q k ≡ true → rank q (suc k) ≡ suc (rank q k)
  rank_in k pass = ap (λ b. cond b (suc (rank q k)) (rank q k)) pass

  rank_out : (k : ℕ) → q k ≡ false → rank q (suc k) ≡ rank q k
  rank_out k fail = ap (λ b. cond b (suc (rank q k)) (rank q k)) fail

  rank_le : (i k : ℕ) → i ≤ k → rank q i ≤ rank q k
  rank_le i zero le = let same : i ≡ 0 = omega arith in omega (arith, ap (rank q) same)
  rank_le i (suc k) le = elim (cases_lt i (suc k)) [
    | inl less ↦ let low = rank_le i k (omega arith) in cond_both (q k) (suc (rank q k)) (rank q k) (λ n. rank q i ≤ n) (λ kept. omega arith) (λ out. low)
    | inr all ↦ let same : i ≡ suc k = omega arith in omega (arith, ap (rank q) same)
  ]

  -- as many items of a list are picked as places pass
  pub rank_length : {X : Type 0} (i n : ℕ) (xs : List X) → n ≡ i + length xs → rank q n ≡ rank q i + length (picked q i xs)
  rank_length i n [] is = let same : n ≡ i = omega (arith, is) in omega (arith, ap (rank q) same)
  rank_length i n (x ∷ xs) is =
      let rest = rank_length (suc i) n xs (omega (arith, is)) in
      elim (cases_Bool (q i)) [
        | inl pass ↦ omega (arith, rest, rank_in i pass, ap (λ b. length (cond b (x ∷ picked q (suc i) xs) (picked q (suc i) xs))) pass)
        | inr fail ↦ omega (arith, rest, rank_out i fail, ap (λ b. length (cond b (x ∷ picked q (suc i) xs) (picked q (suc i) xs))) fail)
      ]

  -- a picked item stands at its rank
  picked_get : {X : Type 0} (xs : List X) (k : ℕ) (d : X) → k < length xs → q k ≡ true → (rank q k < length (picked q 0 xs)) × (get_or (picked q 0 xs) (rank q k) d ≡ get_or xs k d)
  picked_get xs k d within pass =
      let x = get_or xs k d in
      let front = picked q 0 (take k xs) in
      let behind = picked q (suc k) (drop (suc k) xs) in
      let here : 0 + length (take k xs) ≡ k = omega (arith, length-take k xs, within) in
      let count : length front ≡ rank q k = omega (arith, rank_length 0 k (take k xs) (sym here)) in
      let split : picked q 0 xs ≡ front ++ x ∷ behind =
      ap (picked q 0) (sym (take-append-drop k xs)) ∙ picked-append q 0 (take k xs) (drop k xs)
      ∙ ap (λ n. front ++ picked q n (drop k xs)) here
      ∙ ap (λ l. front ++ picked q k l) (drop-cons xs k d within)
      ∙ ap (λ b. front ++ cond b (x ∷ behind) behind) pass in (
        omega (arith, count, ap length split, length-append front (x ∷ behind)),
        ap (λ l. get_or l (rank q k) d) split ∙ ap (λ n. get_or (front ++ x ∷ behind) n d) (sym count)
            ∙ get_or-append_seam front x behind d,
      )

  -- and below a rank each number is that of a place that passes
  rank_onto : (n l : ℕ) → l < rank q n → (k : ℕ) × (k < n) × (q k ≡ true) × (rank q k ≡ l)
  rank_onto zero l less = absurd (omega (arith, less))
  rank_onto (suc n) l less = elim (cases_lt l (rank q n)) [
    | inl before ↦ let at = rank_onto n l before in (at.0, omega (arith, at.1), at.2, at.3)
    | inr from ↦ elim (cases_Bool (q n)) [ inl pass ↦ (n, omega arith, pass, omega (arith, less, from, rank_in n pass)) | inr fail ↦ absurd (omega (arith, less, from, rank_out n fail)) ]
  ]

-- ---- the place of an item when one is put in

-- the place of the item of place k, when another is put in at place p
abbrev pub put : ℕ → ℕ → ℕ
put zero k = suc k
put (suc p) zero = zero
put (suc p) (suc k) = suc (put p k)

put_low : (p k : ℕ) → k < p → put p k ≡ k
put_low zero k less = absurd (omega arith)
put_low (suc p) zero less = refl
put_low (suc p) (suc k) less = ap suc (put_low p k (omega arith))

put_high : (p k : ℕ) → p ≤ k → put p k ≡ suc k
put_high zero k le = refl
put_high (suc p) zero le = absurd (omega arith)
put_high (suc p) (suc k) le = ap suc (put_high p k (omega arith))

put_less : (p j k : ℕ) → j < k → put p j < put p k
put_less p j k less = grind (arith, cases_lt, put_low, put_high)

put_onto : (p j : ℕ) → j ≢ p → (k : ℕ) × (put p k ≡ j)
put_onto zero zero apart = absurd (apart refl)
put_onto zero (suc j) apart = (j, refl)
put_onto (suc p) zero apart = (0, refl)
put_onto (suc p) (suc j) apart = let rest = put_onto p j (λ same. apart (ap suc same)) in (suc rest.0, ap suc rest.1)

put_get : {X : Type 0} (xs : List X) (p k : ℕ) (m d : X) → p ≤ length xs → get_or (insert xs p m) (put p k) d ≡ get_or xs k d
put_get xs zero k m d le = refl
put_get [] (suc p) k m d le = absurd (omega arith)
put_get (x ∷ xs) (suc p) zero m d le = refl
put_get (x ∷ xs) (suc p) (suc k) m d le = put_get xs p k m d (omega arith)

-- ---- the place of a row outside a merge

-- The place of the row of place k in the table after the merge: less by the members before it, and one more behind the
-- merged row.
abbrev pub moved : List Row → List ℕ → ℕ → ℕ
moved rows merge k = rank (λ j. not (has_row merge j)) (put (insert_place rows merge) k)

-- the place of the merged row
abbrev pub merged_at : List Row → List ℕ → ℕ
merged_at rows merge = rank (λ j. not (has_row merge j)) (insert_place rows merge)

module _ (rows : List Row) (merge : List ℕ) (ordered : IsOrdered rows) (in_range : All (λ s. s < length rows) merge) where
  abbrev p : ℕ
  p = insert_place rows merge

  abbrev q : ℕ → Bool
  q = λ j. not (has_row merge j)

  abbrev grown : List Row
  grown = insert rows (insert_place rows merge) (merged_row rows merge)

  p_le : p ≤ length rows
  p_le = place_for-le rows (generality (merged_block rows merge))

  -- no member stands at the insertion place or behind it
  pub none_behind : (k : ℕ) → p ≤ k → has_row merge k ≡ false
  none_behind k le = none_from merge k (λ i d within. omega (arith, le, members_before rows merge ordered in_range i d within))

  stays_put : (k : ℕ) → has_row merge k ≡ false → q (put p k) ≡ true
  stays_put k out = grind (arith, cases_lt, put_low, not_from_false, put_high, none_behind)

  pub moved_less : (j k : ℕ) → has_row merge j ≡ false → j < k → moved rows merge j < moved rows merge k
  moved_less j k out less = omega (arith, rank_in q (put p j) (stays_put j out), rank_le q (suc (put p j)) (put p k) (put_less p j k less))

  pub moved_from : (j k : ℕ) → has_row merge k ≡ false → moved rows merge j < moved rows merge k → j < k
  moved_from j k out less = elim (cases_order j k) [
    | inl same ↦ absurd (omega (arith, less, ap (moved rows merge) same))
    | inr (inl before) ↦ before
    | inr (inr behind) ↦ absurd (omega (arith, less, moved_less k j out behind))
  ]

  -- the merged row stands behind those before its place, and before the others
  pub moved_before : (k : ℕ) → has_row merge k ≡ false → k < p → moved rows merge k < merged_at rows merge
  moved_before k out less = omega (arith, ap (rank q) (put_low p k less), rank_in q k (not_from_false (has_row merge k) out), rank_le q (suc k) p (omega (arith, less)))

  pub moved_behind : (k : ℕ) → p ≤ k → merged_at rows merge < moved rows merge k
  moved_behind k from = omega (arith, ap (rank q) (put_high p k from), rank_in q p (not_from_false (has_row merge p) (none_behind p (omega arith))), rank_le q (suc p) (suc k) (omega (arith, from)))

  -- of any list that has an item for each row, such as their guards
  module _ {X : Type 0} (xs : List X) (m : X) (same : length xs ≡ length rows) where
    in_xs : p ≤ length xs
    in_xs = omega (arith, p_le, same)

    longer : length (insert xs p m) ≡ suc (length xs)
    longer = omega (arith, length-insert xs p m in_xs)

    put_within : (k : ℕ) → k < length xs → put p k < length (insert xs p m)
    put_within k within = grind (arith, cases_lt k p, longer, put_low, put_high)

    pub item_moved : (k : ℕ) (d : X) → k < length xs → has_row merge k ≡ false → (moved rows merge k < length (left merge 0 (insert xs p m))) × (get_or (left merge 0 (insert xs p m)) (moved rows merge k) d ≡ get_or xs k d)
    item_moved k d within out =
        grind (arith, picked_get q (insert xs p m) (put p k) d (put_within k within) (stays_put k out), stays_put k out, put_get xs p k m d in_xs, cases_lt, longer, put_low, put_high)

    pub item_merged : (d : X) → (merged_at rows merge < length (left merge 0 (insert xs p m))) × (get_or (left merge 0 (insert xs p m)) (merged_at rows merge) d ≡ m)
    item_merged d =
        let found = picked_get q (insert xs p m) p d (omega (arith, longer, in_xs)) (not_from_false (has_row merge p) (none_behind p (omega arith))) in
        (found.0, found.1 ∙ get_or-insert_at xs p m d in_xs)

    -- each item after the merge is one that moved, or the one that was put in
    pub item_onto : (l : ℕ) → l < length (left merge 0 (insert xs p m)) → ((k : ℕ) × (k < length xs) × (has_row merge k ≡ false) × (moved rows merge k ≡ l)) ⊎ (l ≡ merged_at rows merge)
    item_onto l within =
        let (j, inside, pass, rank_is) = rank_onto q (length (insert xs p m)) l (omega (arith, within, rank_length q 0 (length (insert xs p m)) (insert xs p m) (omega arith))) in
        elim (cases_eq j p) [
          | inl equal ↦ inr (omega (arith, rank_is, ap (rank q) equal))
          | inr apart ↦ grind (arith, put_onto p j apart, cases_lt (put_onto p j apart).0 p, in_xs, longer, not-true, put_high, none_behind, put_low)
        ]

  pub moved_get : (k : ℕ) (d : Row) → k < length rows → has_row merge k ≡ false → (moved rows merge k < length (after rows merge)) × (get_or (after rows merge) (moved rows merge k) d ≡ get_or rows k d)
  moved_get k d within out = grind (arith, get_or rows k d, after_is rows merge ordered in_range, item_moved rows (merged_row rows merge) refl k d within out)

  pub merged_get : (d : Row) → (merged_at rows merge < length (after rows merge)) × (get_or (after rows merge) (merged_at rows merge) d ≡ merged_row rows merge)
  merged_get d =
      subst (λ l. (merged_at rows merge < length l) × (get_or l (merged_at rows merge) d ≡ merged_row rows merge)) (after_is rows merge ordered in_range)
      (item_merged rows (merged_row rows merge) refl d)

  -- each row after the merge is one that moved, or the merged one
  pub onto : (l : ℕ) → l < length (after rows merge) → ((k : ℕ) × (k < length rows) × (has_row merge k ≡ false) × (moved rows merge k ≡ l)) ⊎ (l ≡ merged_at rows merge)
  onto l within = item_onto rows (merged_row rows merge) refl l (subst (λ x. l < length x) (sym (after_is rows merge ordered in_range)) within)

  pub moved_onto : (l : ℕ) → l < length (after rows merge) → ((k : ℕ) × (k < length rows) × (has_row merge k ≡ false) × (moved rows merge k ≡ l)) ⊎ ((d : Row) → get_or (after rows merge) l d ≡ merged_row rows merge)
  moved_onto l within = elim (onto l within) [ inl one ↦ inl one | inr is ↦ inr (λ d. ap (λ n. get_or (after rows merge) n d) is ∙ (merged_get d).1) ]

  -- what holds of all rows and of the merged one holds after the merge
  pub all_after : (P : Row → Type 0) → P (merged_row rows merge) → All P rows → All P (after rows merge)
  all_after P own all l d within = elim (moved_onto l within) [
    | inl (k, inside, out, is) ↦ subst P (sym (moved_get k d inside out).1 ∙ ap (λ n. get_or (after rows merge) n d) is) (all k d inside)
    | inr is ↦ subst P (sym (is d)) own
  ]

  -- and so does what holds of all pairs of rows, of those before the place with the merged one, and of it with the others
  pub pairs_after : (R : Row → Row → Type 0) → AllPairs R rows → ((k : ℕ) (d : Row) → has_row merge k ≡ false → k < p → R (get_or rows k d) (merged_row rows merge))
      → ((k : ℕ) (d : Row) → p ≤ k → k < length rows → R (merged_row rows merge) (get_or rows k d)) → AllPairs R (after rows merge)
  pairs_after R all into out i j d less within =
      let new = after rows merge in
      let at : (k l : ℕ) → k < length rows → has_row merge k ≡ false → moved rows merge k ≡ l → get_or rows k d ≡ get_or new l d =
      λ k l inside gone is. sym (moved_get k d inside gone).1 ∙ ap (λ n. get_or new n d) is in
      let own : (l : ℕ) → l ≡ merged_at rows merge → merged_row rows merge ≡ get_or new l d = λ l is. sym (merged_get d).1 ∙ ap (λ n. get_or new n d) (sym is) in
      elim (onto i (omega (arith, less, within))) [
        | inl (k, in_k, out_k, is_k) ↦ elim (onto j within) [
          | inl (m, in_m, out_m, is_m) ↦ subst₂ R (at k i in_k out_k is_k) (at m j in_m out_m is_m) (all k m d (moved_from k m out_m (omega (arith, less, is_k, is_m))) in_m)
          | inr is ↦ subst₂ R (at k i in_k out_k is_k) (own j is)
              (into k d out_k (elim (cases_lt k p) [ inl before ↦ before | inr from ↦ absurd (omega (arith, moved_behind k from, less, is_k, is)) ]))
        ]
        | inr is ↦ elim (onto j within) [
          | inl (m, in_m, out_m, is_m) ↦
              subst₂ R (own i is) (at m j in_m out_m is_m) (out m d (elim (cases_lt m p) [ inl before ↦ absurd (omega (arith, moved_before m out_m before, less, is_m, is)) | inr from ↦ from ]) in_m)
          | inr also ↦ absurd (omega (arith, less, is, also))
        ]
      ]

  -- what holds of each item and its row, and of the item that is put in and the merged row, holds after the merge
  module _ {X : Type 0} (xs : List X) (m : X) (same : length xs ≡ length rows) where
    pub length_carried : length (left merge 0 (insert xs p m)) ≡ length (after rows merge)
    length_carried =
        let as_long : length (insert xs p m) ≡ length grown = omega (arith, same, length-insert xs p m (in_xs xs m same), length-insert rows p (merged_row rows merge) p_le) in
        let n = length grown in
        omega (arith, rank_length q 0 n grown (omega arith), rank_length q 0 n (insert xs p m) (omega (arith, as_long)), ap length (after_is rows merge ordered in_range))

    pub all_carried : (P : X → Row → Type 0) (d : X) (e : Row) → ((k : ℕ) → k < length xs → P (get_or xs k d) (get_or rows k e)) → P m (merged_row rows merge)
        → (l : ℕ) → l < length (left merge 0 (insert xs p m)) → P (get_or (left merge 0 (insert xs p m)) l d) (get_or (after rows merge) l e)
    all_carried P d e each own l within = elim (item_onto xs m same l within) [
      | inl (k, inside, out, at) ↦ grind (arith, item_moved xs m same k d inside out, moved_get k e (omega (arith, inside, same)) out, left merge 0 (insert xs p m), get_or)
      | inr is ↦ grind (arith, item_merged xs m same d, merged_get e, left merge 0 (insert xs p m), get_or)
    ]

  module _ (some : 0 < length merge) (bits : ℕ) (other : (s : ℕ) (d : Row) → has_row merge s ≡ true → (get_or rows s d).route.bits ≢ bits) where
    abbrev new : List Row
    new = after rows merge

    abbrev to : ℕ → ℕ
    to = moved rows merge

    abbrev places : List ℕ
    places = places_of bits 0 rows

    are : ArePlaces bits rows (length rows) places
    are = are_places bits rows

    out : (k : ℕ) → HasBits bits rows k → has_row merge k ≡ false
    out k has = false_from_ne_true (has_row merge k) (λ found. other k (merge_rows []) found (has.1 (merge_rows [])))

    image : (k : ℕ) → HasBits bits rows k → HasBits bits new (to k)
    image k has = ((moved_get k (merge_rows []) has.0 (out k has)).0, λ d. ap (λ (r : Row). r.route.bits) (moved_get k d has.0 (out k has)).1 ∙ has.1 d)

    merged_other : (merged_row rows merge).route.bits ≢ bits
    merged_other same = other (get_or merge 0 0) (merge_rows []) (has-at merge 0 some) (ap (λ r. r.bits) (sym (route_is rows merge (merge_rows []) in_range some)) ∙ same)

    -- the places of a route of which no row was merged
    pub moved_places : places_of bits 0 (after rows merge) ≡ map (moved rows merge) (places_of bits 0 rows)
    moved_places = sym (places_only bits new (length new) (map to places) (omega arith) (record {
      ascending = λ i j d less within.
          let in_j : j < length places = omega (arith, within, length-map places to) in
          let in_i : i < length places = omega (arith, less, in_j) in
          let a = get_or places i 0 in
          let b = get_or places j 0 in
          omega (arith, get_or-map to places i 0 d in_i, get_or-map to places j 0 d in_j, moved_less a b (out a (are.each i 0 in_i)) (are.ascending i j 0 less in_j));
      inside = All-map (λ s. s < length new) to places (λ k d within. (image (get_or places k d) (are.each k d within)).0);
      each = All-map (HasBits bits new) to places (λ k d within. image (get_or places k d) (are.each k d within));
      rest = λ l less. elim (moved_onto l less) [
        | inl (k, inside, gone, at) ↦ elim (are.rest k inside) [
          | inl lacks ↦ inl (λ within d equal. lacks inside d (ap (λ (r : Row). r.route.bits) (sym (moved_get k d inside gone).1 ∙ ap (λ n. get_or new n d) at) ∙ equal))
          | inr found ↦
              let place = has-place places k found in
              inr (subst (λ n. has_row (map to places) n ≡ true) (get_or-map to places place.0 0 0 place.1 ∙ ap to place.2 ∙ at)
              (has-at (map to places) place.0 (omega (arith, place.1, length-map places to))))
        ]
        | inr is ↦ inl (λ within d equal. merged_other (ap (λ (r : Row). r.route.bits) (sym (is d)) ∙ equal))
      ];
    }))
