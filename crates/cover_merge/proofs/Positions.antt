-- Places of rows: those of a set, and the insertion place of a merge.
use Rattle.cover_merge.proofs.Common.{All, All-cons, All-contains, All-head, All-nil, All-push, All-tail, All-take, AllPairs, AllPairs-cons, Any-from_list_any, AreThose, Block, Bool, Contains}
use Rattle.cover_merge.proofs.Common.{Contains-get_or, IsMergeSet, IsOrdered, List, Option, Row, SameRoute, Some, [], all_pairs_push, ap, arith, cases_lt, cond, cons_option, count_by-le-length}
use Rattle.cover_merge.proofs.Common.{eq-eqb, eqb-true, false, filter_map-append, generality, generality-merge, get_or, get_or_default, get_or_from_slice_get, has_row, inl, inr, insert_place}
use Rattle.cover_merge.proofs.Common.{is_at_one, leb_tells, length, length-map, length-take, list_any-append, list_any_at, map, map-append, merge_of, merge_of-push, merge_rows, merge_two}
use Rattle.cover_merge.proofs.Common.{merged_block, nat_le, nat_tests, or_left, or_right, place_for, refl, rows_at, same_in_order, slice_get, slice_get-get_or, subst, suc, sum_by-append, sym, take}
use Rattle.cover_merge.proofs.Common.{take_more, true, zero, zero-add, ℕ, ◌++◌, ◌+◌, ◌-◌, ◌<◌, ◌==◌, ◌∙◌, ◌∷◌, ◌≡◌, ◌≤◌, ◌⊎◌}
use Rattle.cover_merge.proofs.Lists.{All-from_map, AllPairs-head, AllPairs-nil, AllPairs-tail}

-- ---- places of a set

-- each place of a set is found
pub has-at : (places : List ℕ) (i : ℕ) → i < length places → has_row places (get_or places i 0) ≡ true
has-at places i in_range = list_any_at (λ s. s == get_or places i 0) places i 0 in_range (eq-eqb (get_or places i 0) (get_or places i 0) refl)

pub all_of : (places : List ℕ) → All (λ s. has_row places s ≡ true) places
all_of places k d within = subst (λ t. has_row places t ≡ true) (get_or_default places k 0 d within) (has-at places k within)

-- and what is found is a place of it
pub has-place : (places : List ℕ) (k : ℕ) → has_row places k ≡ true → (i : ℕ) × (i < length places) × (get_or places i 0 ≡ k)
has-place places k found = grind (arith, Any-from_list_any, get_or_default, eqb-true)

-- what holds of all places holds of one that is found
pub All-has : (P : ℕ → Type 0) (places : List ℕ) (k : ℕ) → All P places → has_row places k ≡ true → P k
All-has P places k all found = let at = has-place places k found in subst P at.2 (all at.0 0 at.1)

-- ---- places of which something holds

module _ (P Q : ℕ → Type 0) where
  module _ (n : ℕ) (list : List ℕ) (are : AreThose P Q n list) where
    -- places of which Q holds change nothing
    pub those_stay : (m : ℕ) → n ≤ m → ((s : ℕ) → n ≤ s → s < m → Q s) → AreThose P Q m list
    those_stay m le others = record {
      ascending = are.ascending;
      inside = λ k d within. omega (arith, le, are.inside k d within);
      each = are.each;
      rest = λ s less. elim (cases_lt s n) [ inl before ↦ are.rest s before | inr from ↦ inl (others s from less) ];
    }

    pub those_next : Q n → AreThose P Q (n + 1) list
    those_next here = those_stay (n + 1) (omega arith) (λ s from less. let same : n ≡ s = omega (arith, from, less) in subst Q same here)

    -- one of which P holds comes last
    pub those_more : P n → AreThose P Q (n + 1) (list ++ n ∷ [])
    those_more here = record {
      ascending = all_pairs_push (λ s t. s < t) list n are.ascending are.inside;
      inside = All-push (λ s. s < n + 1) list n (λ k d within. omega (arith, are.inside k d within)) (omega arith);
      each = All-push P list n are.each here;
      rest = grind (arith, list_any-append, cases_lt, or_left, or_right, eq-eqb);
    }

  -- there is one, or the list is empty
  pub those_case : (n : ℕ) (list : List ℕ) → AreThose P Q n list → ((s : ℕ) × (s < n) × (P s)) ⊎ (list ≡ [])
  those_case n [] are = inr refl
  those_case n (s ∷ list) are = inl (s, are.inside 0 s (omega arith), are.each 0 s (omega arith))

  -- where no place has both, the list is the only one
  module _ (apart : (s : ℕ) → P s → Q s → ⊥) (n : ℕ) where
    those_in : (xs ys : List ℕ) → AreThose P Q n xs → AreThose P Q n ys → (s : ℕ) → Contains xs s → Contains ys s
    those_in xs ys one two s has = elim (two.rest s (All-contains (λ k. k < n) xs s one.inside has)) [
      | inl other ↦ absurd (apart s (All-contains P xs s one.each has) other)
      | inr found ↦ let at = has-place ys s found in subst (Contains ys) at.2 (Contains-get_or ys at.0 0 at.1)
    ]

    pub those_one : (xs ys : List ℕ) → AreThose P Q n xs → AreThose P Q n ys → xs ≡ ys
    those_one xs ys one two = same_in_order (λ s. s) xs ys one.ascending two.ascending (those_in xs ys one two) (those_in ys xs two one)

-- ---- rows of a set

-- the rows of a set within the table, one for each place
rows_at-map : (rows : List Row) (places : List ℕ) (d : Row) → All (λ s. s < length rows) places → rows_at rows places ≡ map (λ s. get_or rows s d) places
rows_at-map rows [] d in_range = refl
rows_at-map rows (s ∷ places) d in_range =
    ap (λ o. cons_option o (rows_at rows places)) (slice_get-get_or rows s d (All-head (λ x. x < length rows) s places in_range))
    ∙ ap (λ l. get_or rows s d ∷ l) (rows_at-map rows places d (All-tail (λ x. x < length rows) s places in_range))

module _ (P : Row → Type 0) where
  All-cons_option : (o : Option Row) (rows : List Row) → ((r : Row) → o ≡ Some r → P r) → All P rows → All P (cons_option o rows)
  All-cons_option o rows here rest = grind (arith, All-cons)

  module _ (rows : List Row) where
    -- what holds at each place of a set holds of its rows
    pub rows_at-from : (places : List ℕ) → ((s : ℕ) (d : Row) → has_row places s ≡ true → P (get_or rows s d)) → All P (rows_at rows places)
    rows_at-from [] h = All-nil P
    rows_at-from (s ∷ places) h =
        All-cons_option (slice_get rows s) (rows_at rows places)
        (λ r is. subst P (get_or_from_slice_get rows s r r is) (h s r (has-at (s ∷ places) 0 (omega arith))))
        (rows_at-from places (λ k d found. h k d (or_right (s == k) (has_row places k) found)))

    -- and what holds of its rows holds at each place
    pub rows_at-has : (places : List ℕ) → All (λ s. s < length rows) places → All P (rows_at rows places) → (s : ℕ) (d : Row) → has_row places s ≡ true → P (get_or rows s d)
    rows_at-has places in_range all s d = All-has (λ k. P (get_or rows k d)) places s (All-from_map P (λ k. get_or rows k d) places (subst (All P) (rows_at-map rows places d in_range) all))

-- a set within the table has as many rows as places
pub rows_at-length : (rows : List Row) (places : List ℕ) → All (λ s. s < length rows) places → length (rows_at rows places) ≡ length places
rows_at-length rows places in_range = ap length (rows_at-map rows places (merge_rows []) in_range) ∙ length-map places (λ s. get_or rows s (merge_rows []))

-- one more place, one more row
pub rows_at-push : (rows : List Row) (places : List ℕ) (s : ℕ) (r : Row) → slice_get rows s ≡ Some r → rows_at rows (places ++ s ∷ []) ≡ rows_at rows places ++ r ∷ []
rows_at-push rows places s r is = filter_map-append (slice_get rows) places (s ∷ []) ∙ ap (λ o. rows_at rows places ++ cons_option o []) is

-- rows have blocks
pub some_blocks : (xs : List Row) → 0 < length xs → 0 < length (map (λ (x : Row). x.block) xs)
some_blocks [] some = some
some_blocks (x ∷ xs) some = omega arith

pub merged_block-push : (rows : List Row) (places : List ℕ) (s : ℕ) (r : Row) → All (λ x. x < length rows) places → 0 < length places → slice_get rows s ≡ Some r
    → merged_block rows (places ++ s ∷ []) ≡ merge_two (merged_block rows places) r.block
merged_block-push rows places s r in_range some is =
    ap (λ xs. merge_of (map (λ (x : Row). x.block) xs)) (rows_at-push rows places s r is)
    ∙ ap merge_of (map-append (λ (x : Row). x.block) (rows_at rows places) (r ∷ []))
    ∙ merge_of-push (map (λ (x : Row). x.block) (rows_at rows places)) r.block (some_blocks (rows_at rows places) (omega (arith, rows_at-length rows places in_range)))

-- one place more
merge_push : (rows : List Row) (places : List ℕ) (s : ℕ) (x : Row) (m n : Block) → All (λ t. t < length rows) places → 0 < length places → s < length rows → m ≡ merged_block rows places
    → n ≡ merge_two m (get_or rows s x).block → n ≡ merged_block rows (places ++ s ∷ [])
merge_push rows places s x m n in_range some inside before now =
    now ∙ ap (λ b. merge_two b (get_or rows s x).block) before ∙ sym (merged_block-push rows places s (get_or rows s x) in_range some (slice_get-get_or rows s x inside))

-- one more of the first places
pub merge_next : (rows : List Row) (set : List ℕ) (k : ℕ) (x : Row) (m n : Block) → All (λ s. s < length rows) set → 0 < k → k < length set → m ≡ merged_block rows (take k set)
    → n ≡ merge_two m (get_or rows (get_or set k 0) x).block → n ≡ merged_block rows (take (k + 1) set)
merge_next rows set k x m n in_range some within before now =
    merge_push rows (take k set) (get_or set k 0) x m n (All-take (λ s. s < length rows) k set in_range) (omega (arith, some, within, length-take k set)) (in_range k 0 within) before now
    ∙ ap (merged_block rows) (sym (take_more set k 0 within))

-- ---- the insertion place

place_for-cons : (r : Row) (rows : List Row) (g : ℕ) → place_for (r ∷ rows) g ≡ cond (nat_le (generality r.block) g) 1 0 + place_for rows g
place_for-cons r rows g =
    sum_by-append (λ (x : Row). cond (nat_le (generality x.block) g) 1 0) (r ∷ []) rows
    ∙ ap (λ x. x + place_for rows g) (zero-add (cond (nat_le (generality r.block) g) 1 0))

-- where all are more general, none counts
place_for-none : (rows : List Row) (g : ℕ) → All (λ (r : Row). g < generality r.block) rows → place_for rows g ≡ 0
place_for-none [] g all = refl
place_for-none (r ∷ rows) g all =
    let above : g < generality r.block = All-head (λ (x : Row). g < generality x.block) r rows all in
    let rest = place_for-none rows g (All-tail (λ (x : Row). g < generality x.block) r rows all) in
    place_for-cons r rows g ∙ grind (arith, nat_tests, above, rest)

pub place_for-le : (rows : List Row) (g : ℕ) → place_for rows g ≤ length rows
place_for-le rows g = count_by-le-length (λ (r : Row). nat_le (generality r.block) g) rows

-- a row above g has none of generality g or less behind it
behind : (r : Row) (rows : List Row) (g : ℕ) → IsOrdered (r ∷ rows) → g < generality r.block → place_for rows g ≡ 0
behind r rows g ordered above = place_for-none rows g (λ k d in_range. omega (arith, AllPairs-head (λ (x y : Row). generality x.block ≤ generality y.block) r rows ordered k d in_range))

-- a row of an ordered table stands before the place and is of lesser or equal generality, or neither
abbrev IsTold : List Row → ℕ → ℕ → Row → Type 0
IsTold rows g k d = ((k < place_for rows g) × (generality (get_or rows k d).block ≤ g)) ⊎ ((place_for rows g ≤ k) × (g < generality (get_or rows k d).block))

place_for-tells : (rows : List Row) (g : ℕ) → IsOrdered rows → (k : ℕ) (d : Row) → k < length rows → IsTold rows g k d
place_for-tells [] g ordered k d within = absurd (omega (arith, within))
place_for-tells (r ∷ rows) g ordered k d within =
    by_head k within (leb_tells (generality r.block) g) (λ j inside. place_for-tells rows g (AllPairs-tail (λ (x y : Row). generality x.block ≤ generality y.block) r rows ordered) j d inside)
  where
    count : (b : Bool) → nat_le (generality r.block) g ≡ b → place_for (r ∷ rows) g ≡ cond b 1 0 + place_for rows g
    count b is = place_for-cons r rows g ∙ ap (λ t. cond t 1 0 + place_for rows g) is

    by_head : (k : ℕ) → k < suc (length rows) → ((nat_le (generality r.block) g ≡ true) × (generality r.block ≤ g)) ⊎ ((nat_le (generality r.block) g ≡ false) × (g < generality r.block))
        → ((j : ℕ) → j < length rows → IsTold rows g j d) → IsTold (r ∷ rows) g k d
    by_head zero inside (inl low) rest = inl (omega (arith, count true low.0), low.1)
    by_head (suc k) inside (inl low) rest = elim
        (rest k (omega (arith, inside))) [ inl at ↦ inl (omega (arith, count true low.0, at.0), at.1) | inr at ↦ inr (omega (arith, count true low.0, at.0), at.1) ]
    by_head zero inside (inr high) rest = inr (omega (arith, count false high.0, behind r rows g ordered high.1), high.1)
    by_head (suc k) inside (inr high) rest = inr (
      omega (arith, count false high.0, behind r rows g ordered high.1),
      omega (arith, high.1, AllPairs-head (λ (x y : Row). generality x.block ≤ generality y.block) r rows ordered k d (omega (arith, inside))),
    )

module _ (rows : List Row) (g : ℕ) (ordered : IsOrdered rows) (k : ℕ) (d : Row) where
  pub place_for-below : k < place_for rows g → generality (get_or rows k d).block ≤ g
  place_for-below before = elim (place_for-tells rows g ordered k d (omega (arith, before, place_for-le rows g))) [ inl at ↦ at.1 | inr at ↦ absurd (omega (arith, before, at.0)) ]

  pub place_for-above : k < length rows → generality (get_or rows k d).block ≤ g → k < place_for rows g
  place_for-above within le = elim (place_for-tells rows g ordered k d within) [ inl at ↦ at.0 | inr at ↦ absurd (omega (arith, le, at.1)) ]

  -- a row from the place on is more general, and a more general row stands there
  pub place_for-from : k < length rows → place_for rows g ≤ k → g < generality (get_or rows k d).block
  place_for-from within from = elim (place_for-tells rows g ordered k d within) [ inl at ↦ absurd (omega (arith, from, at.0)) | inr at ↦ at.1 ]

pub place_for-reach : (rows : List Row) (g : ℕ) → IsOrdered rows → (k : ℕ) (d : Row) → g < generality (get_or rows k d).block → place_for rows g ≤ k
place_for-reach rows g ordered k d more = elim (cases_lt k (place_for rows g)) [
  | inl less ↦ absurd (omega (arith, more, place_for-below rows g ordered k d less))
  | inr le ↦ le
]

-- ---- every member of a set stands before its insertion place

module _ (rows : List Row) (places : List ℕ) (in_range : All (λ s. s < length rows) places) where
  -- each member is at most as general as the merge
  pub member_le : (s : ℕ) (d : Row) → has_row places s ≡ true → generality (get_or rows s d).block ≤ generality (merged_block rows places)
  member_le = rows_at-has (λ (r : Row). generality r.block ≤ generality (merged_block rows places)) rows places in_range (All-from_map (λ b. generality b ≤ generality (merged_block rows places)) (λ (x : Row). x.block) (rows_at rows places) (generality-merge _))

  pub member_before : IsOrdered rows → (s : ℕ) (d : Row) → has_row places s ≡ true → s < insert_place rows places
  member_before ordered s d found = place_for-above rows _ ordered s d (All-has (λ x. x < length rows) places s in_range found) (member_le s d found)

-- ---- a pair

-- what holds of two items holds of all pairs of their list
pub pair_of : (R : ℕ → ℕ → Type 0) (i j : ℕ) → R i j → AllPairs R (i ∷ j ∷ [])
pair_of R i j here = AllPairs-cons R i (j ∷ []) (All-cons (R i) j [] here (All-nil (R i))) (AllPairs-cons R j [] (All-nil (R j)) (AllPairs-nil R))

-- and what holds of both, of all
pub both_of : (P : ℕ → Type 0) (i j : ℕ) → P i → P j → All P (i ∷ j ∷ [])
both_of P i j first second = All-cons P i (j ∷ []) first (All-cons P j [] second (All-nil P))

-- two rows of one route are a set
pub pair_set : (rows : List Row) (i j : ℕ) → i < j → j < length rows → SameRoute rows i j → IsMergeSet rows (i ∷ j ∷ [])
pair_set rows i j less within alike = grind (arith, pair_of (SameRoute rows) i j alike, both_of)

-- ---- numbers of rows at places

-- the number of a row at one of the places is found
pub at_one_of : (serials places : List ℕ) (r : ℕ) → has_row places r ≡ true → is_at_one serials places (get_or serials r 0) ≡ true
at_one_of serials places r found = grind (arith, has-place, eq-eqb, get_or, list_any_at)
