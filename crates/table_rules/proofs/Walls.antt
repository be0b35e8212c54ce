-- Behind a wall no key is new: the rows of its route have all keys, and those before them have none of the wall's.
use Rattle.table_rules.proofs.Common.{Alias, All, All-append, All-at, All-cons, All-drop, All-flat_map, All-has, All-head, All-map, All-nil, All-tail, All-take, AllPairs, AllPairs-head, AllPairs-left}
use Rattle.table_rules.proofs.Common.{AreLeft, Block, Bool, Contains, Contains-append_cases, Contains-append_left, Contains-append_right, Covers, HasNoNewKeys, HoldsItsAliases, Intersects}
use Rattle.table_rules.proofs.Common.{IsCoveredWithin, IsFree, IsPermutation, IsRowAdded, IsShortWithin, IsShorterOf, IsSound, IsTableFrom, IsTableMadeOf, KeepsRoutes, List, Matches, Misses, None}
use Rattle.table_rules.proofs.Common.{Option, Original, Port, Route, RoutedBlock, Row, Some, StandsBefore, [], after, all_keys, and_le_l, and_le_r, ap, arith, bit_and, bit_at, bit_at-zero, bit_not}
use Rattle.table_rules.proofs.Common.{bit_xor, cond, cons_option, done, drop, eqb_tells, false, find-append, find_at, first_with, fold, generality, generality-mono, get_or, has_row, in_pieces, inl}
use Rattle.table_rules.proofs.Common.{inr, insert_place, kept, left_out, length, length-append, length-take, map, merge_rows, merged, merged_row, more, nat_le, nat_tests, not, option_or, others}
use Rattle.table_rules.proofs.Common.{picked, piece_row, pieces_of, place_for, position_or_len, refl, rows_at, rows_at-from, rows_before, served, served_by, slice_get, stuck, subst, suc}
use Rattle.table_rules.proofs.Common.{sum_by-append, sym, take, take-append-drop, take_while-cons, takes_key, true, w32, wall_of, walled, whole, whole_row, ℕ, ◌++◌, ◌-◌, ◌<◌, ◌==◌, ◌^◌, ◌∙◌, ◌∷◌, ◌≡◌}
use Rattle.table_rules.proofs.Common.{◌≤◌}
use Rattle.cover_merge.specs.Covering.{short}
use Rattle.tern_word.specs.Ternary.{merge_two}
use Rattle.table_rules.proofs.{Faithful.IsServed, Faithful.is_served, Faithful.sent_on, Kept.kept_within, Kept.none_of, FirstRows.first_hit, FirstRows.first_next, Sounds.all_insert}
use Rattle.table_rules.proofs.Sounds.{all_with_rows, tail_sound}

-- ---- blocks of all keys

-- a block whose mask has no bit has all keys
pub all_match : (b : Block) (k : ℕ) → b.mask ≡ 0 → Matches b k
all_match b k none = omega (arith, ap (bit_and k) none, and_le_r k 0, b.within, ap (bit_and b.key) none, and_le_r b.key 0)

-- what is merged with one has all keys
fold_none : (b : Block) (bs : List Block) → b.mask ≡ 0 → (fold merge_two b bs).mask ≡ 0
unfolding merge_two
fold_none b [] none = none
fold_none b (c ∷ bs) none = fold_none (merge_two b c) bs (omega (arith, and_le_l (bit_and b.mask c.mask) (bit_not w32 (bit_xor b.key c.key)), and_le_l b.mask c.mask, none))

-- no block is more general
most_general : (b other : Block) → b.mask ≡ 0 → generality other ≤ generality b
most_general b other none = generality-mono other b (λ i v want. let no : 0 ≡ 1 = sym (bit_at-zero i) ∙ (ap (λ m. bit_at m i) (sym none) ∙ want.cares) in absurd (omega (arith, no)))

-- ---- original blocks of a sound table

-- one of a row has its route
of_row : (r : Row) (o : Original) → Contains (served_by r) o → o.route ≡ r.route
of_row r o among =
    subst (λ (x : Original). x.route ≡ r.route) among.2
    (All-map (λ (x : Original). x.route ≡ r.route) (λ (a : Alias). let x : Original = record { block = a.block; port = a.port; route = r.route } in x) r.aliases (λ i d inside. refl) among.0 o among.1)

-- the first row meets none of the rest
misses_rest : (r : Row) (rows : List Row) (o : Original) → IsSound (r ∷ rows) → Contains (served rows) o → Intersects r.block o.block → ⊥
misses_rest r rows o sound among =
    let P = λ (x : Original). Intersects r.block x.block → ⊥ in
    let rest = AllPairs-head (λ (x y : Row). Misses x.block y) r rows sound.unmet in
    let all : All P (served rows) = All-flat_map P served_by rows (λ j d within.
    let s = get_or rows j d in
    All-map P (λ (a : Alias). let x : Original = record { block = a.block; port = a.port; route = s.route } in x) s.aliases (rest j d within)) in
    subst P among.2 (all among.0 o among.1)

-- ---- rows of the route of these bits have all keys

module _ (bits : ℕ) where
  abbrev AreWide : Row → Type 0
  AreWide r = r.route.bits ≡ bits → r.block.mask ≡ 0

  at_places : (rows : List Row) (places : List ℕ) → All AreWide rows → All AreWide (rows_at rows places)
  at_places rows [] all = All-nil AreWide
  at_places rows (s ∷ places) all = by_item (slice_get rows s) (λ r is. All-at AreWide rows s r all is) (at_places rows places all)
    where
      by_item : (o : Option Row) → ((r : Row) → o ≡ Some r → AreWide r) → All AreWide (rows_at rows places) → All AreWide (cons_option o (rows_at rows places))
      by_item o here rest = grind (arith, All-cons)

  wide_merge : (rows : List Row) → All AreWide rows → AreWide (merge_rows rows)
  wide_merge [] all is = refl
  wide_merge (r ∷ rows) all is = fold_none r.block (map (λ (x : Row). x.block) rows) (All-head AreWide r rows all is)

  wide_cond : (b : Bool) (x : Row) (ys : List Row) → (b ≡ true → AreWide x) → All AreWide ys → All AreWide (cond b (x ∷ ys) ys)
  wide_cond true x ys here rest = All-cons AreWide x ys (here refl) rest
  wide_cond false x ys here rest = rest

  -- of wide rows those that are picked are wide
  wide_picked : (q : ℕ → Bool) (i : ℕ) (xs : List Row) → All AreWide xs → All AreWide (picked q i xs)
  wide_picked q i [] all = All-nil AreWide
  wide_picked q i (x ∷ xs) all = wide_cond (q i) x (picked q (suc i) xs) (λ _. All-head AreWide x xs all) (wide_picked q (suc i) xs (All-tail AreWide x xs all))

  wide_after : (rows : List Row) (places : List ℕ) → All AreWide rows → All AreWide (after rows places)
  wide_after rows places all =
      let p = insert_place rows places in
      let q = λ (k : ℕ). not (has_row places k) in
      All-append AreWide (kept places 0 (take p rows)) (merged_row rows places ∷ kept places p (drop p rows))
      (wide_picked q 0 (take p rows) (All-take AreWide p rows all))
      (All-cons AreWide (merged_row rows places) (kept places p (drop p rows)) (wide_merge (rows_at rows places) (at_places rows places all)) (wide_picked q p (drop p rows) (All-drop AreWide p rows all)))

  wide_covered : (target : ℕ) (table : List Row) (sets : List (List ℕ)) (rows : List Row) → Covers target table sets rows → All AreWide table → All AreWide rows
  wide_covered target table sets rows (short r few) all = all
  wide_covered target table sets rows (stuck r long none) all = all
  wide_covered target table sets rows (merged r set left covered long chosen covers) all = wide_covered target (after r set) left covered covers (wide_after r set all)

  -- ---- the table with a wall

  count_all : (b : Block) → b.mask ≡ 0 → (rows : List Row) → place_for rows (generality b) ≡ length rows
  count_all b none [] = refl
  count_all b none (r ∷ rows) =
      sum_by-append (λ (x : Row). cond (nat_le (generality x.block) (generality b)) 1 0) (r ∷ []) rows
      ∙ grind (arith, nat_tests, most_general b r.block none, count_all b none rows)

  -- what has all keys stands behind all rows
  stands_last : (b : Block) (rows : List Row) → b.mask ≡ 0 → StandsBefore b rows
  stands_last b rows none r d from within = absurd (omega (arith, from, within, count_all b none rows))

  abbrev IsWideGiven : RoutedBlock → Type 0
  IsWideGiven g = g.route.bits ≡ bits → g.block.mask ≡ 0

  wide_put : (rows : List Row) (given : RoutedBlock) (pieces : List Block) (next : List Row) → IsRowAdded rows given pieces next → All AreWide rows → IsWideGiven given → All AreWide next
  wide_put rows given pieces next (left_out none) all wide = all
  wide_put rows given pieces next (whole some stands) all wide = all_insert AreWide rows (place_for rows (generality given.block)) (whole_row given pieces) all wide
  wide_put rows given pieces next (in_pieces some stands_not) all wide =
      all_with_rows AreWide (map (piece_row given) pieces) rows all
      (All-map AreWide (piece_row given) pieces (λ i d within is. absurd (stands_not (stands_last given.block rows (wide is)))))

  wide_from : (room : ℕ) (before : List RoutedBlock) (rows : List Row) (given : List RoutedBlock) (table : List Row) → IsTableFrom room before rows given table → All AreWide rows → All IsWideGiven given → All AreWide table
  wide_from room before rows given table (done n b r) all wide = all
  wide_from room before rows given table (more n b r g rest pieces next t cuts put from) all wide =
      wide_from (n - length pieces) (b ++ g ∷ []) next rest t from (wide_put r g pieces next put all (All-head IsWideGiven g rest wide)) (All-tail IsWideGiven g rest wide)

  -- ---- the rows before the first of the route

  stops_at : (r : Row) (rows : List Row) → (r.route.bits == bits) ≡ true → rows_before bits (r ∷ rows) ≡ []
  stops_at r rows is = take_while-cons (λ (x : Row). not (x.route.bits == bits)) r rows ∙ ap (λ b. cond (not b) (r ∷ rows_before bits rows) []) is

  goes_past : (r : Row) (rows : List Row) → (r.route.bits == bits) ≡ false → rows_before bits (r ∷ rows) ≡ r ∷ rows_before bits rows
  goes_past r rows is = take_while-cons (λ (x : Row). not (x.route.bits == bits)) r rows ∙ ap (λ b. cond (not b) (r ∷ rows_before bits rows) []) is

  sound_before : (rows : List Row) → IsSound rows → IsSound (rows_before bits rows)
  sound_before rows sound =
      let n = position_or_len (λ (r : Row). r.route.bits == bits) rows in
      record {
        ordered = pairs_of (λ (r s : Row). generality r.block ≤ generality s.block) n sound.ordered;
        inside = All-take HoldsItsAliases n rows sound.inside;
        unmet = pairs_of (λ (r s : Row). Misses r.block s) n sound.unmet;
      }
    where
      pairs_of : (R : Row → Row → Type 0) (n : ℕ) → AllPairs R rows → AllPairs R (take n rows)
      pairs_of R n all = AllPairs-left R (take n rows) (drop n rows) (subst (AllPairs R) (sym (take-append-drop n rows)) all)

  -- what is served by another route is served before it
  served_before : (rows : List Row) (k : ℕ) (port : Port) (route : Route) → IsSound rows → All AreWide rows → k < 2 ^ 32 → (route.bits ≡ bits → ⊥) → IsServed rows k port route
      → IsServed (rows_before bits rows) k port route
  served_before [] k port route sound wide small other it = it
  served_before (r ∷ rows) k port route sound wide small other it = elim (Contains-append_cases (served_by r) (served rows) it.original it.among) [
    | inl here ↦ elim (eqb_tells r.route.bits bits) [
      | inl same ↦ absurd (other (ap (λ (x : Route). x.bits) (sym it.by ∙ of_row r it.original here) ∙ same.1))
      | inr apart ↦
          subst (λ l. IsServed l k port route) (sym (goes_past r rows apart.0))
          (record { original = it.original; among = Contains-append_left (served_by r) (served (rows_before bits rows)) it.original here; has = it.has; comes = it.comes; by = it.by })
    ]
    | inr there ↦ elim (eqb_tells r.route.bits bits) [
      | inl same ↦
          absurd (misses_rest r rows it.original sound there (record { key = k; small = small; first = all_match r.block k (All-head AreWide r rows wide same.1); second = it.has }))
      | inr apart ↦
          let rest : IsServed rows k port route = record { original = it.original; among = there; has = it.has; comes = it.comes; by = it.by } in
          let left = served_before rows k port route (tail_sound r rows sound) (All-tail AreWide r rows wide) small other rest in
          subst (λ l. IsServed l k port route) (sym (goes_past r rows apart.0))
          (record { original = left.original; among = Contains-append_right (served_by r) (served (rows_before bits rows)) left.original left.among; has = left.has; comes = left.comes; by = left.by })
    ]
  ]

  -- and none of the rows before it has a key that is served by its route
  none_before_wall : (rows : List Row) (k : ℕ) (o : Original) → IsSound rows → k < 2 ^ 32 → Contains (served rows) o → Matches o.block k → o.route.bits ≡ bits
      → All (λ (r : Row). Matches r.block k → ⊥) (rows_before bits rows)
  none_before_wall [] k o sound small among hit is = All-nil (λ (r : Row). Matches r.block k → ⊥)
  none_before_wall (r ∷ rows) k o sound small among hit is = elim (eqb_tells r.route.bits bits) [
    | inl same ↦ subst (All (λ (x : Row). Matches x.block k → ⊥)) (sym (stops_at r rows same.0)) (All-nil (λ (x : Row). Matches x.block k → ⊥))
    | inr apart ↦
        subst (All (λ (x : Row). Matches x.block k → ⊥)) (sym (goes_past r rows apart.0)) (
        elim (Contains-append_cases (served_by r) (served rows) o among) [
          | inl here ↦ absurd (apart.1 (ap (λ (x : Route). x.bits) (sym (of_row r o here)) ∙ is))
          | inr there ↦
              All-cons (λ (x : Row). Matches x.block k → ⊥) r (rows_before bits rows)
              (λ met. misses_rest r rows o sound there (record { key = k; small = small; first = met; second = hit }))
              (none_before_wall rows k o (tail_sound r rows sound) small there hit is)
        ])
  ]

  -- a row that is found is one of the rows
  pub found_holds : (P : RoutedBlock → Type 0) (rows : List RoutedBlock) (k : ℕ) (row : RoutedBlock) → All P rows → first_with rows k ≡ Some row → P row
  found_holds P rows k row all first = All-at P rows (position_or_len (takes_key k) rows) row all (sym (find_at (takes_key k) rows) ∙ first)

-- ---- covered within a wall

module _ (target room : ℕ) (given : List RoutedBlock) (route : Route) (rows : List Row) (left : List RoutedBlock) (within : IsCoveredWithin target room given route rows)
    (sound : IsSound rows) (same : IsPermutation (served within.covered.table) (served rows)) (are : AreLeft (rows_before route.bits rows) left) where
  wide_rows : All (AreWide route.bits) rows
  wide_rows =
      wide_covered route.bits target within.covered.table within.covered.sets rows within.covered.covered
      (wide_from route.bits room [] [] (walled given route) within.covered.table within.covered.made (All-nil (AreWide route.bits))
      (All-append (IsWideGiven route.bits) given (wall_of route ∷ []) (λ i d inside is. absurd (within.free i d inside is)) (All-cons (IsWideGiven route.bits) (wall_of route) [] (λ is. refl) (All-nil (IsWideGiven route.bits)))))

  pub keeps_before : KeepsRoutes given left
  keeps_before k row small first =
      let among = find-append (takes_key k) given (wall_of route ∷ []) ∙ ap (λ o. option_or o (first_with (wall_of route ∷ []) k)) first in
      let it = is_served room (walled given route) within.covered.table rows within.covered.made same k row small among in
      let other = found_holds route.bits (λ (r : RoutedBlock). r.route.bits ≡ route.bits → ⊥) given k row within.free first in
      sent_on (rows_before route.bits rows) left k row.port row.route (sound_before route.bits rows sound) are small (served_before route.bits rows k row.port row.route sound wide_rows small other it)

  pub no_new_keys : HasNoNewKeys given left
  no_new_keys k small none =
      let here = first_next given (wall_of route ∷ []) k none ∙ first_hit (wall_of route) [] k (all_match all_keys k refl) in
      let it = is_served room (walled given route) within.covered.table rows within.covered.made same k (wall_of route) small here in
      let before = rows_before route.bits rows in
      let miss = none_before_wall route.bits rows k it.original sound small it.among it.has (ap (λ (r : Route). r.bits) it.by) in
      let in_range = kept_within before 0 are.places are.kept in
      subst (λ l. first_with l k ≡ None) (sym are.are)
      (none_of (rows_at before are.places) k
      (rows_at-from (λ (r : Row). Matches r.block k → ⊥) before are.places (λ s d found. miss s d (All-has (λ n. n < length before) are.places s in_range found))))

-- ---- what the code tests

-- the rows before it, from the slice that was read
module _ (bits : ℕ) (rows list before : List Row) (same : list ≡ rows) (is : before ≡ rows_before bits list) where
  pub sound_wall : IsSound rows → IsSound before
  sound_wall sound = subst IsSound (sym (is ∙ ap (rows_before bits) same)) (sound_before bits rows sound)

  pub few_wall : length before ≤ length rows
  few_wall = omega (arith, ap length is, ap length same, length-take (position_or_len (λ (r : Row). r.route.bits == bits) list) list)

module _ (target room : ℕ) (given : List RoutedBlock) (route : Route) (table rows : List Row) (sets : List (List ℕ)) (long : target < length given) (free : IsFree given route.bits) (made : IsTableMadeOf room (walled given route) table) (covers : Covers target table sets rows) where
  within : IsCoveredWithin target room given route rows
  within = grind (arith, length-append given (wall_of route ∷ []))

  module _ (list before : List Row) (left : List RoutedBlock) (same : list ≡ rows) (is : before ≡ rows_before route.bits list) (are : AreLeft before left) where
    before_wall : AreLeft (rows_before route.bits rows) left
    before_wall = subst (λ l. AreLeft l left) (is ∙ ap (rows_before route.bits) same) are

    pub is_short_within : (own pieces new : List RoutedBlock) → own ≡ others route (pieces_of table) → pieces ≡ pieces_of table → IsShorterOf target own pieces left new → IsShortWithin target room given new
    unfolding within
    is_short_within own pieces new own_is pieces_are of = record {
      route = route;
      rows = rows;
      within = within;
      left = left;
      are_left = before_wall;
      shorter = subst (λ l. IsShorterOf target (others route (pieces_of table)) l left new) pieces_are (subst (λ l. IsShorterOf target l pieces left new) own_is of);
    }

    pub says_within : IsSound rows → IsPermutation (served table) (served rows) → KeepsRoutes given left × HasNoNewKeys given left
    unfolding within
    says_within sound serves =
        (keeps_before target room given route rows left within sound serves before_wall, no_new_keys target room given route rows left within sound serves before_wall)
