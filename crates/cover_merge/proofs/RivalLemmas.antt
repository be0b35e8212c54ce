-- Rivals of rows: what they tell of the up-check, and how they are found.
use Rattle.cover_merge.proofs.Common.{Alias, All, All-push, AllPairs, Any-from_list_any, AreJoined, AreRivalsAt, AreSpansOf, AreSpansOfAll, Block, Bool, HasSerial, Intersects, Intersects-sym}
use Rattle.cover_merge.proofs.Common.{Intersects-wider, IsLegal, IsMergeSet, IsOneRoute, IsOrdered, IsOriginal, IsRivalAdded, IsRivalBehind, IsRivaled, IsSound, IsTrue, LiesIn, List, MeetsAliasOf}
use Rattle.cover_merge.proofs.Common.{MeetsNone, Misses, PassesDown, PassesUp, Rival, Rivals, Row, SameRoute, [], all_pairs_push, ap, append-nil, arith, below_more, bit_and, cases_lt, cases_order}
use Rattle.cover_merge.proofs.Common.{eq-eqb, eqb-true, false, false_from_ne_true, generality, get_or, get_or_append_left, get_or_default, get_or_from_slice_get, get_or_push, has_row, inl, inr}
use Rattle.cover_merge.proofs.Common.{insert_place, is_at_one, length, list_any-append, merge_rows, merged_block, or_left, or_right, place_for, refl, slice_get_within, subst, sym, true, true≢false, ℕ}
use Rattle.cover_merge.proofs.Common.{◌++◌, ◌+◌, ◌<◌, ◌==◌, ◌^◌, ◌↔◌, ◌∙◌, ◌∷◌, ◌≡◌, ◌≤◌, ◌⊎◌}
use Rattle.cover_merge.proofs.Positions.{All-has, both_of, at_one_of, has-at, has-place, place_for-above, place_for-below, place_for-le}
use Rattle.cover_merge.proofs.{Answering.answers_no, Answering.fails, Legal.up_from_legal, Legal.down_from_legal, Legal.legal_from_checks}

-- ---- numbers in a list of rivals

-- a number that is listed is that of a rival
pub serial_at : (list : List Rival) (serial : ℕ) → HasSerial list serial → (at : ℕ) × (at < length list) × ((e : Rival) → (get_or list at e).serial ≡ serial)
serial_at list serial has =
    let at = Any-from_list_any (λ (v : Rival). v.serial == serial) list has in
    (at.0, at.2, λ e. ap (λ (v : Rival). v.serial) (get_or_default list at.0 e at.1 at.2 ∙ at.3) ∙ eqb-true at.1.serial serial at.4)

-- one more has its number, and the others have theirs
pub listed_among : (xs ys : List Rival) (v : Rival) (n : ℕ) → (v.serial ≡ n) ⊎ (HasSerial (xs ++ ys) n) → HasSerial (xs ++ v ∷ ys) n
listed_among xs ys v n is = grind (arith, list_any-append, or_right, or_left, eq-eqb)

-- ---- the rows of a set

-- the rows of a set have one route
pub one_route : (rows : List Row) (places : List ℕ) → IsOneRoute rows places → (s r : ℕ) → has_row places s ≡ true → has_row places r ≡ true → s < r → SameRoute rows s r
one_route rows places set s r in_s in_r less d = grind (arith, has-place, cases_order, get_or)

-- ---- rows that are not original

-- a row that is original meets no alias of an earlier one
pub original_misses : (rows : List Row) → IsSound rows → (s r : ℕ) (d : Row) → s < r → r < length rows → IsOriginal (get_or rows r d) → Misses (get_or rows r d).block (get_or rows s d)
original_misses rows sound s r d less inside own k e within meets =
    let first = get_or rows s d in
    let later = get_or rows r d in
    let alias = (get_or first.aliases k e).block in
    let lies : LiesIn alias first.block = sound.inside s d (omega (arith, less, inside)) k e within in
    let apart : Intersects first.block own.alias.block → ⊥ = subst (λ (a : Alias). Intersects first.block a.block → ⊥) (get_or_from_slice_get later.aliases own.at own.alias own.alias own.found)
    (sound.unmet s r d less inside own.at own.alias (slice_get_within later.aliases own.at own.alias own.found)) in
    apart (Intersects-sym own.alias.block first.block (Intersects-wider own.alias.block alias first.block lies (record { key = meets.key; small = meets.small; first = ap (bit_and meets.key) own.mask ∙ meets.first ∙ sym own.key; second = meets.second })))

-- ---- the place behind the rows of a generality

pub place_found : (rows : List Row) (g p : ℕ) → IsOrdered rows → p ≤ length rows → ((k : ℕ) (d : Row) → k < p → generality (get_or rows k d).block ≤ g) → ((k : ℕ) (d : Row) → p ≤ k → k < length rows → g < generality (get_or rows k d).block) → p ≡ place_for rows g
place_found rows g p ordered within low high =
    let d : Row = merge_rows [] in
    elim (cases_order p (place_for rows g)) [
      | inl same ↦ same
      | inr (inl before) ↦ let le = place_for-le rows g in absurd (omega (arith, high p d (omega arith) (omega arith), place_for-below rows g ordered p d before))
      | inr (inr after) ↦ let q = place_for rows g in absurd (omega (arith, place_for-above rows g ordered q d (omega (arith, within, after)) (low q d after)))
    ]

-- ---- what the code reads

-- ---- a pair

module _ (rows : List Row) (i j : ℕ) (set : IsMergeSet rows (i ∷ j ∷ [])) (sound : IsSound rows) (b : Block) (is : b ≡ merged_block rows (i ∷ j ∷ [])) (g : ℕ) (general : g ≡ generality b) where
  place_is : place_for rows g ≡ insert_place rows (i ∷ j ∷ [])
  place_is = ap (place_for rows) (general ∙ ap generality is)

  -- where the up-check of one of them fails, the pair is not legal
  pub pair_refused : (s : ℕ) (t : Bool) → has_row (i ∷ j ∷ []) s ≡ true → (IsTrue t) ↔ (PassesUp rows (i ∷ j ∷ []) s (place_for rows g)) → t ≡ false → (IsTrue false) ↔ (IsLegal rows (i ∷ j ∷ []))
  pair_refused s t member tells came =
      answers_no (IsLegal rows (i ∷ j ∷ [])) (λ legal. fails (PassesUp rows (i ∷ j ∷ []) s (place_for rows g)) t tells came
      (subst (PassesUp rows (i ∷ j ∷ []) s) (sym place_is) (up_from_legal rows (i ∷ j ∷ []) sound set.set.in_range legal s member)))

  -- where both pass it, the down-check decides
  pub pair_told : (t : Bool) → PassesUp rows (i ∷ j ∷ []) i (place_for rows g) → PassesUp rows (i ∷ j ∷ []) j (place_for rows g) → (IsTrue t) ↔ (PassesDown rows b (place_for rows g)) → (IsTrue t) ↔ (IsLegal rows (i ∷ j ∷ []))
  pair_told t first second tells =
      let P : ℕ → Type 0 = λ n. PassesUp rows (i ∷ j ∷ []) n (insert_place rows (i ∷ j ∷ [])) in
      let up : All P (i ∷ j ∷ []) = both_of P i j (subst (PassesUp rows (i ∷ j ∷ []) i) place_is first) (subst (PassesUp rows (i ∷ j ∷ []) j) place_is second) in (
        λ passes. legal_from_checks rows (i ∷ j ∷ []) sound set.set.in_range (λ s found. All-has P (i ∷ j ∷ []) s up found)
            (subst (PassesDown rows (merged_block rows (i ∷ j ∷ []))) place_is (subst (λ x. PassesDown rows x (place_for rows g)) is (tells.0 passes))),
        λ legal. tells.1 (subst (λ x. PassesDown rows x (place_for rows g)) (sym is) (subst (PassesDown rows (merged_block rows (i ∷ j ∷ []))) (sym place_is) (down_from_legal rows (i ∷ j ∷ []) sound set.set.in_range legal))),
      )

-- ---- the up-check by rivals

module _ (rows : List Row) (rivals : Rivals) (rivaled : IsRivaled rows rivals) where
  abbrev numbers : List ℕ
  numbers = rivals.serials.items

  -- the list that was read is that of the row's number
  pub rivals_read : (s n : ℕ) (at list : List Rival) → s < length rows → n ≡ get_or rivals.serials.items s n → at ≡ get_or rivals.of.items n at → list ≡ at → AreRivalsAt rows rivals.serials.items s list
  rivals_read s n at list inside n_is at_is list_is =
      let of = rivals.of.items in
      let counted : s < length numbers = omega (arith, rivaled.one_each, inside) in
      let is : get_or numbers s 0 ≡ n = get_or_default numbers s 0 n counted ∙ sym n_is in
      let low : n < length of = subst (λ k. k < length of) is (rivaled.below s 0 counted) in
      subst (AreRivalsAt rows numbers s) (ap (λ i. get_or of i []) is ∙ get_or_default of n [] at low ∙ sym at_is ∙ sym list_is) (rivaled.each s inside)

  module _ (places : List ℕ) (in_range : All (λ r. r < length rows) places) where
    -- as numbers are apart, no other row has the number of one at a place of the set
    at_place : (r : ℕ) → r < length rows → is_at_one numbers places (get_or numbers r 0) ≡ true → has_row places r ≡ true
    at_place r inside found = grind (arith, get_or numbers r 0, Any-from_list_any, eqb-true, get_or_default, has-at)

    module _ (s : ℕ) (list : List Rival) (are : AreRivalsAt rows rivals.serials.items s list) (g : ℕ) where
      -- where each rival that is at most so general is at one of the places, the row passes
      passes_by : (n : ℕ) → ((k : ℕ) → k < n → (e : Rival) → is_at_one numbers places (get_or list k e).serial ≡ true) → ((k : ℕ) (e : Rival) → n ≤ k → k < length list → g < (get_or list k e).general)
          → PassesUp rows places s (place_for rows g)
      passes_by n passed left r after before d outside =
          let e : Rival = record { serial = 0; general = 0; bits = 0 } in
          let inside : r < length rows = omega (arith, before, place_for-le rows g) in
          elim (are.all r after inside) [
            | inl misses ↦ misses d
            | inr has ↦ let listed = serial_at list (get_or numbers r 0) has in absurd (elim (cases_lt listed.0 n) [
              | inl earlier ↦
                  let found = subst (λ k. is_at_one numbers places k ≡ true) (listed.2 e) (passed listed.0 earlier e) in
                  true≢false (sym (at_place r inside found) ∙ outside)
              | inr later ↦
                  let it = are.each listed.0 e listed.1 in
                  let same : it.place ≡ r = rivaled.apart it.place r it.is.inside inside (sym it.is.serial ∙ listed.2 e) in
                  let low = place_for-below rows g rivaled.sound.ordered r d before in
                  let level = it.is.general d ∙ ap (λ i. generality (get_or rows i d).block) same in
                  omega (arith, level, low, left listed.0 e later listed.1)
            ])
          ]

      module _ (n : ℕ) (passed : (k : ℕ) → k < n → (e : Rival) → is_at_one rivals.serials.items places (get_or list k e).serial ≡ true) where
        -- at the end of the list
        pub all_passed : length list ≤ n → PassesUp rows places s (place_for rows g)
        all_passed end = passes_by n passed (λ k e from within. absurd (omega (arith, from, within, end)))

        -- and where the next is more general, since then so are all behind it
        pub rest_pass : (v : Rival) → n < length list → g < (get_or list n v).general → PassesUp rows places s (place_for rows g)
        rest_pass v inside high = passes_by n passed above
          where
            above : (k : ℕ) (e : Rival) → n ≤ k → k < length list → g < (get_or list k e).general
            above k e from within = grind (arith, get_or_default list n v e inside, cases_lt n k, get_or)

      -- a rival that is at most so general, and of another route or at none of the places, comes before the row
      module _ (alike : (r : ℕ) → s < r → has_row places r ≡ true → SameRoute rows s r) (n : ℕ) (v : Rival) (within : n < length list) (low : (get_or list n v).general ≤ g) where
        comes_before : ((r : ℕ) → s < r → (get_or list n v).serial ≡ get_or numbers r 0 → ((d : Row) → (get_or list n v).bits ≡ (get_or rows r d).route.bits) → has_row places r ≡ true → ⊥) → PassesUp rows places s (place_for rows g) → ⊥
        comes_before none up =
            let it = are.each n v within in
            let d : Row = merge_rows [] in
            let level = it.is.general d in
            let before = place_for-above rows g rivaled.sound.ordered it.place d it.is.inside (omega (arith, level, low)) in
            it.meets d (up it.place it.behind before d (false_from_ne_true (has_row places it.place) (none it.place it.behind it.is.serial it.is.bits)))

        pub other_refuses : (a : Row) → ((get_or list n v).bits ≡ (get_or rows s a).route.bits → ⊥) → PassesUp rows places s (place_for rows g) → ⊥
        other_refuses a other = comes_before (λ r after serial bits found. other (bits a ∙ ap (λ x. x.bits) (sym (alike r after found a))))

        pub away_refuses : is_at_one rivals.serials.items places (get_or list n v).serial ≡ false → PassesUp rows places s (place_for rows g) → ⊥
        away_refuses away = comes_before (λ r after serial bits found. true≢false (sym (ap (is_at_one numbers places) serial ∙ at_one_of numbers places r found) ∙ away))

-- ---- rivals, found from the front

-- one that was read meets an alias of the other
pub met_read : (rows : List Row) (s r : ℕ) (first e : Row) (t : Bool) → s < length rows → r < length rows → first ≡ get_or rows s first → (IsTrue t) ↔ (Misses (get_or rows r e).block first) → t ≡ false → MeetsAliasOf rows r s
met_read rows s r first e t in_s in_r is_first tells came d misses = grind (arith, get_or rows r e, get_or_default rows r d e in_r, get_or rows r d, get_or_default rows s d first in_s, fails)

-- Of the rows for which Q holds the list has just the rivals of row s, in order of generality.
pub record AreRivalsOf (Q : ℕ → Type 0) (rows : List Row) (serials : List ℕ) (s : ℕ) (list : List Rival) : Type 0 where
  pub ordered : AllPairs (λ (v w : Rival). v.general ≤ w.general) list
  pub each : All (λ v. (it : IsRivalBehind rows serials s v) × (Q it.place)) list
  pub all : (r : ℕ) → s < r → r < length rows → Q r → (MeetsNone rows r s) ⊎ (HasSerial list (get_or serials r 0))

-- where the others are no rivals
pub rivals_all : (Q : ℕ → Type 0) (rows : List Row) (serials : List ℕ) (s : ℕ) (list : List Rival) → ((r : ℕ) → s < r → r < length rows → (Q r) ⊎ (MeetsNone rows r s))
    → AreRivalsOf Q rows serials s list → AreRivalsAt rows serials s list
rivals_all Q rows serials s list every are = record {
  ordered = are.ordered;
  each = λ k d within. (are.each k d within).0;
  all = λ r after inside. elim (every r after inside) [ inl has ↦ are.all r after inside has | inr misses ↦ inl misses ];
}

-- of one row more, which is behind all others
module _ (Q R : ℕ → Type 0) (n : ℕ) (into : (r : ℕ) → Q r → R r) (out : (r : ℕ) → R r → (Q r) ⊎ (n ≡ r)) (here : R n) (before : (r : ℕ) → Q r → r < n) where
  pub rivals_turn : (rows : List Row) (serials : List ℕ) (s : ℕ) (old new : List Rival) → IsOrdered rows → AreRivalsOf Q rows serials s old → IsRivalAdded rows serials s n old new
      → AreRivalsOf R rows serials s new
  rivals_turn rows serials s old new ordered are (inl (misses, is)) = subst (AreRivalsOf R rows serials s) (sym is) (record {
    ordered = are.ordered;
    each = λ k d within. let at = are.each k d within in (at.0, into at.0.place at.1);
    all = λ r after inside has. elim (out r has) [ inl past ↦ are.all r after inside past | inr same ↦ inl (subst (λ i. s < i → MeetsNone rows i s) same misses after) ];
  })
  rivals_turn rows serials s old new ordered are (inr (behind, v, is, meets, made)) =
      let last : (k : ℕ) (d : Rival) → k < length old → (get_or old k d).general ≤ v.general = λ k d within. let a : Row = merge_rows [] in
      let at = are.each k d within in
      omega (arith, at.0.is.general a, is.general a, ordered at.0.place n a (before at.0.place at.1) is.inside) in
      subst (AreRivalsOf R rows serials s) (sym made) (record {
        ordered = all_pairs_push (λ (a b : Rival). a.general ≤ b.general) old v are.ordered last;
        each = All-push (λ w. (it : IsRivalBehind rows serials s w) × (R it.place)) old v (λ k d within. let at = are.each k d within in (at.0, into at.0.place at.1))
            (record { place = n; behind = behind; is = is; meets = meets }, here);
        all = grind (arith, listed_among old, append-nil old, get_or);
      })

-- ---- rivals among the joined rows

-- row r is one of the first k of the list
abbrev pub IsAmong : List ℕ → ℕ → ℕ → Type 0
IsAmong joined k r = (i : ℕ) × (i < k) × (get_or joined i 0 ≡ r)

module _ (rows : List Row) (serials : List ℕ) (sound : IsSound rows) (joined : List ℕ) (are_joined : AreJoined rows (length rows) joined) (s k : ℕ) where
  pub among_more : (old new : List Rival) → k < length joined → AreRivalsOf (IsAmong joined k) rows serials s old → IsRivalAdded rows serials s (get_or joined k 0) old new
      → AreRivalsOf (IsAmong joined (k + 1)) rows serials s new
  among_more old new within = rivals_turn (IsAmong joined k) (IsAmong joined (k + 1)) (get_or joined k 0) (λ r has. (has.0, omega (arith, has.1), has.2))
      (λ r has. elim (cases_lt has.0 k) [ inl less ↦ inl (has.0, less, has.2) | inr last ↦ let same : k ≡ has.0 = omega (arith, last, has.1) in inr (ap (λ i. get_or joined i 0) same ∙ has.2) ])
      (k, omega arith, refl) (λ r has. omega (arith, has.2, are_joined.ascending has.0 k 0 has.1 within)) rows serials s old new sound.ordered

  pub among_all : (list : List Rival) → length joined ≤ k → AreRivalsOf (IsAmong joined k) rows serials s list → AreRivalsAt rows serials s list
  among_all list end = rivals_all (IsAmong joined k) rows serials s list (λ r after inside. elim (are_joined.rest r inside) [
    | inl own ↦ inr (λ d. original_misses rows sound s r d after inside (own d))
    | inr found ↦ let at = has-place joined r found in inl (at.0, omega (arith, at.1, end), at.2)
  ])

-- ---- all rows, numbered in their order

-- the rivals of one row more
pub lists_more : (rows : List Row) (serials : List ℕ) (n : ℕ) (of new : List (List Rival)) (list : List Rival) → length of ≡ n
    → ((k : ℕ) (d : List Rival) → k < n → AreRivalsAt rows serials k (get_or of k d)) → new ≡ of ++ list ∷ []
    → AreRivalsAt rows serials n list → (k : ℕ) (d : List Rival) → k < n + 1 → AreRivalsAt rows serials k (get_or new k d)
lists_more rows serials n of new list many each is found k d = below_more (λ i. AreRivalsAt rows serials i (get_or new i d)) n
    (λ i before. subst (AreRivalsAt rows serials i) (sym (ap (λ l. get_or l i d) is ∙ get_or_append_left of (list ∷ []) d i (omega (arith, before, many)))) (each i d before))
    (subst (AreRivalsAt rows serials n) (sym (ap (λ l. get_or l n d) is ∙ get_or_push of list d n many)) found) k

module _ (rows : List Row) (rivals : Rivals) (long : length rivals.serials.items ≡ length rows) (place : (k : ℕ) → k < length rows → get_or rivals.serials.items k 0 ≡ k) where
  pub numbered_all : length rivals.of.items ≡ length rows → ((k : ℕ) (d : List Rival) → k < length rows → AreRivalsAt rows rivals.serials.items k (get_or rivals.of.items k d))
      → length rows < 2 ^ 32 → IsSound rows
      → AreSpansOfAll rows rivals.spans.items → IsRivaled rows rivals
  numbered_all lists each few sound spans = record {
    few = few;
    sound = sound;
    one_each = long;
    below = λ i d within. omega (arith, get_or_default rivals.serials.items i d 0 within, place i (omega (arith, within, long)), within, long, lists);
    apart = λ i j in_i in_j same. sym (place i in_i) ∙ same ∙ place j in_j;
    each = λ s inside. subst (λ i. AreRivalsAt rows rivals.serials.items s (get_or rivals.of.items i [])) (sym (place s inside)) (each s [] inside);
    as_many = spans.one_each ∙ sym lists;
    spanned = λ s d inside. subst (λ i. AreSpansOf (get_or rows s d).aliases (get_or rivals.spans.items i [])) (sym (place s inside)) (spans.each s d inside);
  }
