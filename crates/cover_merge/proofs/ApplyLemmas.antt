-- Taking rows out, and the table after a merge.
use Rattle.cover_merge.proofs.Common.{Alias, All, AllPairs, Block, Bool, Err, IsOrdered, List, Ok, OnOk, Option, Result, Row, [], after, aliases_at, ap, append-nil, arith, cond, cons_option, drop}
use Rattle.cover_merge.proofs.Common.{false, false_from_ne_true, flat_map, flat_map-append, generality, get_or, get_or_default, has_row, insert, insert_place, kept, length, length-take, map, merge_of}
use Rattle.cover_merge.proofs.Common.{merge_rows, merged_block, merged_row, not, picked, place_for, refl, rows_at, slice_get-get_or, subst, suc, sym, take, take_more, true, ℕ, ◌++◌, ◌+◌, ◌<◌, ◌∙◌}
use Rattle.cover_merge.proofs.Common.{◌∷◌, ◌≡◌, ◌≤◌}
use Rattle.cover_merge.proofs.{Lists.cond_of, Positions.rows_at-push, Positions.member_before, Positions.has-at, Positions.has-place, Positions.place_for-le}

-- ---- a place that is not of the set

-- all places above k: k is none of them
pub none_at : (places : List ℕ) (k : ℕ) → All (λ t. k < t) places → has_row places k ≡ false
none_at places k above = false_from_ne_true (has_row places k) (λ found. let at = has-place places k found in omega (arith, at.2, above at.0 0 at.1))

-- all places below k: k is none of them
pub none_from : (places : List ℕ) (k : ℕ) → All (λ t. t < k) places → has_row places k ≡ false
none_from places k below = false_from_ne_true (has_row places k) (λ found. let at = has-place places k found in omega (arith, at.2, below at.0 0 at.1))

-- the items whose places, counted from i, are not of the set
abbrev pub left : {X : Type 0} → List ℕ → ℕ → List X → List X
left places i xs = picked (λ k. not (has_row places k)) i xs

pub kept_in : {X : Type 0} (places : List ℕ) (j : ℕ) (x : X) (xs : List X) → has_row places j ≡ false → left places j (x ∷ xs) ≡ x ∷ left places (suc j) xs
kept_in places j x xs e = ap (λ b. cond (not b) (x ∷ left places (suc j) xs) (left places (suc j) xs)) e

pub kept_out : {X : Type 0} (places : List ℕ) (j : ℕ) (x : X) (xs : List X) → has_row places j ≡ true → left places j (x ∷ xs) ≡ left places (suc j) xs
kept_out places j x xs e = ap (λ b. cond (not b) (x ∷ left places (suc j) xs) (left places (suc j) xs)) e

-- where none of the places is one of the list, all are kept
pub kept_free : {X : Type 0} (places : List ℕ) (j : ℕ) (xs : List X) → ((k : ℕ) → j ≤ k → k < j + length xs → has_row places k ≡ false) → left places j xs ≡ xs
kept_free places j [] free = refl
kept_free places j (x ∷ xs) free =
    kept_in places j x xs (free j (omega arith) (omega arith))
    ∙ ap (λ ys. x ∷ ys) (kept_free places (suc j) xs (λ k from before. free k (omega arith) (omega (arith, before))))

-- where no place is left, all are kept
pub kept_none : {X : Type 0} (places : List ℕ) (j : ℕ) (xs : List X) → All (λ t. t < j) places → left places j xs ≡ xs
kept_none places j xs below = kept_free places j xs (λ k from before. none_from places k (λ i d within. omega (arith, from, below i d within)))

-- ---- the table after a merge

-- the block of a merge
pub merge_rows-block_of : (rows : List Row) → (merge_rows rows).block ≡ merge_of (map (λ (x : Row). x.block) rows)
merge_rows-block_of [] = refl
merge_rows-block_of (r ∷ rows) = refl

pub picked-append : {X : Type 0} (q : ℕ → Bool) (i : ℕ) (xs ys : List X) → picked q i (xs ++ ys) ≡ picked q i xs ++ picked q (i + length xs) ys
picked-append {X = X} q i [] ys = ap (λ j. picked q j ys) (omega arith)
picked-append {X = X} q i (x ∷ xs) ys =
    ap (λ zs. cond (q i) (x ∷ zs) zs) (picked-append q (suc i) xs ys ∙ ap (λ j. picked q (suc i) xs ++ picked q j ys) (omega arith))
    ∙ cond_of (λ (l : List X). l ++ picked q (i + suc (length xs)) ys) (q i) (x ∷ picked q (suc i) xs) (picked q (suc i) xs)

module _ (rows : List Row) (places : List ℕ) (ordered : IsOrdered rows) (in_range : All (λ s. s < length rows) places) where
  -- all members stand before the insertion place
  pub members_before : All (λ t. t < insert_place rows places) places
  members_before k d within =
      subst (λ x. x < insert_place rows places) (get_or_default places k 0 d within)
      (member_before rows places in_range ordered (get_or places k 0) (merged_row rows places) (has-at places k within))

  -- so places that are read are gaps before a place that is found
  pub gaps_at : (members : List ℕ) (place : ℕ) → members ≡ places → place ≡ insert_place rows places → AllPairs (λ s t. s < t) places → 2 ≤ length places
      → (0 < length members) × (AllPairs (λ s t. s < t) members) × (All (λ s. s < place) members)
  gaps_at members place same at ascending two = subst (λ l. (0 < length l) × (AllPairs (λ s t. s < t) l) × (All (λ s. s < place) l)) (sym same)
      (omega (arith, two), ascending, subst (λ n. All (λ s. s < n) places) (sym at) members_before)

  pub after_is : kept places 0 (insert rows (insert_place rows places) (merged_row rows places)) ≡ after rows places
  after_is =
      let p = insert_place rows places in
      let m = merged_row rows places in
      let q = λ (k : ℕ). not (has_row places k) in
      let front_length : 0 + length (take p rows) ≡ p = omega (arith, length-take p rows, place_for-le rows (generality (merged_block rows places))) in
      picked-append q 0 (take p rows) (m ∷ drop p rows)
      ∙ ap (λ n. picked q 0 (take p rows) ++ picked q n (m ∷ drop p rows)) front_length
      ∙ ap (λ ys. picked q 0 (take p rows) ++ ys)
      (kept_in places p m (drop p rows) (none_from places p members_before)
      ∙ ap (λ ys. m ∷ ys)
      (kept_none places (suc p) (drop p rows) (λ k d within. omega (arith, members_before k d within))
      ∙ sym (kept_none places p (drop p rows) members_before)))

  pub block_is : (merged_row rows places).block ≡ merged_block rows places
  block_is = merge_rows-block_of (rows_at rows places)

  -- the place that the code finds
  module _ (list : List Row) (same : list ≡ rows) (m : Row) (is : m ≡ merged_row rows places) (g p : ℕ) (general : g ≡ generality m.block) (place : p ≡ place_for list g) where
    pub place_found : p ≡ insert_place rows places
    place_found = place ∙ ap (λ l. place_for l g) same ∙ ap (place_for rows) (general ∙ ap (λ (r : Row). generality r.block) is ∙ ap generality block_is)

    pub found_before : All (λ t. t < p) places
    found_before = subst (λ n. All (λ t. t < n) places) (sym place_found) members_before

-- ---- the merged row

pub aliases_more : (rows : List Row) (places : List ℕ) (i : ℕ) (r : Row) → All (λ s. s < length rows) places → i < length places
    → aliases_at rows (take (i + 1) places) ≡ aliases_at rows (take i places) ++ (get_or rows (get_or places i 0) r).aliases
aliases_more rows places i r in_range within =
    let row = get_or rows (get_or places i 0) r in
    ap (aliases_at rows) (take_more places i 0 within)
    ∙ ap (flat_map (λ (x : Row). x.aliases)) (rows_at-push rows (take i places) (get_or places i 0) row (slice_get-get_or rows (get_or places i 0) r (in_range i 0 within)))
    ∙ flat_map-append (λ (x : Row). x.aliases) (rows_at rows (take i places)) (row ∷ [])
    ∙ ap (λ l. aliases_at rows (take i places) ++ l) (append-nil row.aliases)

pub row_made : (rows : List Row) (places : List ℕ) (d : Row) (b : Block) (a : List Alias) → All (λ s. s < length rows) places → 0 < length places
    → b ≡ merged_block rows places → a ≡ aliases_at rows places
    → ◌≡◌ {A = Row} (record { block = b; route = (get_or rows (get_or places 0 0) d).route; aliases = a }) (merged_row rows places)
row_made rows [] d b a in_range some block aliases = absurd (omega arith)
row_made rows (s ∷ places) d b a in_range some block aliases = grind (arith, get_or rows s d, slice_get-get_or rows s d (in_range 0 s (omega arith)))

-- an outcome that says P of `Ok` says what follows from P
pub on_ok : {T E : Type 0} (r : Result T E) (P Q : Type 0) → (P → Q) → OnOk r P → OnOk r Q
on_ok (Ok x) P Q h p = h p
on_ok (Err e) P Q h p = p

pub both_ok : {T E : Type 0} (r : Result T E) (P Q S : Type 0) → (P → Q → S) → OnOk r P → OnOk r Q → OnOk r S
both_ok (Ok x) P Q S h p q = h p q
both_ok (Err e) P Q S h p q = p

-- the merge has the route of its first row
pub route_is : (rows : List Row) (places : List ℕ) (d : Row) → All (λ s. s < length rows) places → 0 < length places → (merged_row rows places).route ≡ (get_or rows (get_or places 0 0) d).route
route_is rows [] d in_range some = absurd (omega arith)
route_is rows (s ∷ places) d in_range some = ap (λ (o : Option Row). (merge_rows (cons_option o (rows_at rows places))).route) (slice_get-get_or rows s d (in_range 0 s (omega arith)))
