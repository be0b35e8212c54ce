-- What tables are, once each has a row for each original block of its chip.
use Rattle.net_tables.proofs.Common.{Alias, All, All-cons, All-head, All-map, All-nil, All-tail, AllPairs, AllPairs-cons, AllPairs-filter, AllPairs-from_map, AllPairs-head, AllPairs-map}
use Rattle.net_tables.proofs.Common.{AllPairs-permutation, AllPairs-tail, AllZip, AllZip-at_second, AllZip-long, AreApart, AreBlocksOf, AreOriginals, ArePlainTables, AreRight, AreRoutedApart}
use Rattle.net_tables.proofs.Common.{AreTurningBlocksOf, AtEach, Block, Bool, Chip, Contains, Contains-cases, Contains-first, Contains-later, Contains-map, Contains-none, Contains-permutation}
use Rattle.net_tables.proofs.Common.{Contains-unmap, Description, Entry, HasChip, HoldsItsAliases, Intersects, Intersects-sym, IsInside, IsKeyOf, IsOriginalOf, IsOutput, IsPermutation-map}
use Rattle.net_tables.proofs.Common.{IsPermutation-sym, IsPlainTable, IsRouted, IsRowNotAfter, IsSound, IsTableOf, LiesIn, List, Mark, Misses, NetPlan, Original, Out, Port, Route, Row}
use Rattle.net_tables.proofs.Common.{ServesOriginals, Some, Table, [], ap, append-nil, arith, bit_and, cases_Bool, cases_eq, cases_lt, chip_of, chip_of-inside, cond, default_route, entries, entry_of}
use Rattle.net_tables.proofs.Common.{eq-eqb, eqb-true, false≢true, filter, find, generality, get_or, get_or_default, get_or_from_slice_get, has, index_below, index_of, index_of-chip_of, inl, inr}
use Rattle.net_tables.proofs.Common.{is_wanted, length, length-filter_both, length-map, length_permutation, lookup, map, matches, not, option_map_or, original_of, refl, row_of, row_of_mark, served}
use Rattle.net_tables.proofs.Common.{slice_get, slice_get-mapped, slice_get_there, subst, suc, sym, true, turns, zero, ℕ, ◌*◌, ◌++◌, ◌+◌, ◌<◌, ◌∙◌, ◌∷◌, ◌≡◌, ◌≤◌}
use Rattle.net_tables.proofs.Trees.{chips_inside, comes_in_tree}

-- nets that are routed apart are each routed
pub all_routed : (m : Description) (nets : List NetPlan) → AreRoutedApart m nets → All (IsRouted m) nets
all_routed m nets are k d below = record { tree = are.trees k d below; root = are.roots k d below; cores = are.cores k d below }

-- ---- lists

map_twice : (ks : List Mark) → map row_of (map original_of ks) ≡ map row_of_mark ks
map_twice [] = refl
map_twice (k ∷ ks) = ap (λ l. row_of_mark k ∷ l) (map_twice ks)

entries_twice : (ks : List Mark) → map entry_of (map row_of_mark ks) ≡ map (λ (k : Mark). entry_of (row_of_mark k)) ks
entries_twice [] = refl
entries_twice (k ∷ ks) = ap (λ l. entry_of (row_of_mark k) ∷ l) (entries_twice ks)

-- the list beside the table of a place
table_of_list : (lists : List (List Mark)) (tables : List Table) → AllZip IsTableOf lists tables → (i : ℕ) (t : Table) → slice_get tables i ≡ Some t →
    IsTableOf (get_or lists i []) t
table_of_list lists tables h i t e =
    let k = AllZip-at_second IsTableOf lists tables h i t e in
    subst (λ (l : List Mark). IsTableOf l t) (sym (get_or_from_slice_get lists i k.0 [] k.1)) k.2

at_map : (f : Table → List Entry) (ts : List Table) (i : ℕ) → i < length ts → (t : Table) × (slice_get ts i ≡ Some t) × (get_or (map f ts) i [] ≡ f t)
at_map f ts i below =
    let there = slice_get_there ts i below in
    (there.0, there.1, get_or_from_slice_get (map f ts) i (f there.0) [] (slice_get-mapped f ts i there.0 there.1))

-- ---- original blocks

module _ (m : Description) (c : Chip) where
  -- what holds of the nets' blocks holds of the originals' blocks
  all_originals : (P : Block → Type 0) (nets : List NetPlan) (os : List Original) → AreOriginals m c nets os → All (λ (n : NetPlan). P n.block) nets →
      All (λ (o : Original). P o.block) os
  all_originals P [] os are all = subst (All (λ (o : Original). P o.block)) (sym are) (All-nil (λ (o : Original). P o.block))
  all_originals P (n ∷ nets) os (inl on) all =
      subst (All (λ (o : Original). P o.block)) (sym on.4)
      (All-cons (λ (o : Original). P o.block) on.1 on.3 (subst P (sym on.2.keys) (All-head (λ (n : NetPlan). P n.block) n nets all))
      (all_originals P nets on.3 on.5 (All-tail (λ (n : NetPlan). P n.block) n nets all)))
  all_originals P (n ∷ nets) os (inr off) all = all_originals P nets os off.1 (All-tail (λ (n : NetPlan). P n.block) n nets all)

  pub originals_apart : (nets : List NetPlan) (os : List Original) → AreOriginals m c nets os → AllPairs (λ (a b : NetPlan). ¬ (Intersects a.block b.block)) nets →
      AllPairs (λ (a b : Original). ¬ (Intersects a.block b.block)) os
  originals_apart [] os are pairs = λ i j d less below. absurd (let none : length os ≡ 0 = ap length are in omega (arith, below, none))
  originals_apart (n ∷ nets) os (inl on) pairs =
      subst (AllPairs (λ (a b : Original). ¬ (Intersects a.block b.block))) (sym on.4)
      (AllPairs-cons (λ (a b : Original). ¬ (Intersects a.block b.block)) on.1 on.3
      (all_originals (λ (b : Block). ¬ (Intersects on.1.block b)) nets on.3 on.5
      (subst (λ (a : Block). All (λ (k : NetPlan). ¬ (Intersects a k.block)) nets) (sym on.2.keys) (AllPairs-head (λ (a b : NetPlan). ¬ (Intersects a.block b.block)) n nets pairs)))
      (originals_apart nets on.3 on.5 (AllPairs-tail (λ (a b : NetPlan). ¬ (Intersects a.block b.block)) n nets pairs)))
  originals_apart (n ∷ nets) os (inr off) pairs = originals_apart nets os off.1 (AllPairs-tail (λ (a b : NetPlan). ¬ (Intersects a.block b.block)) n nets pairs)

  -- each net whose tree has the chip has an original block there
  pub has_original : (nets : List NetPlan) (os : List Original) → AreOriginals m c nets os → (i : ℕ) (d : NetPlan) → i < length nets → HasChip m (get_or nets i d) c →
      (o : Original) × Contains os o × IsOriginalOf m (get_or nets i d) c o
  has_original [] os are i d below on = absurd (omega (arith, below))
  has_original (n ∷ nets) os (inl mine) zero d below on =
      (mine.1, subst (λ (l : List Original). Contains l mine.1) (sym mine.4) (Contains-first mine.1 mine.3), mine.2)
  has_original (n ∷ nets) os (inr off) zero d below on = absurd (off.0 on)
  has_original (n ∷ nets) os (inl mine) (suc i) d below on =
      let rest = has_original nets mine.3 mine.5 i d (omega (arith, below)) on in
      (rest.0, subst (λ (l : List Original). Contains l rest.0) (sym mine.4) (Contains-later mine.1 mine.3 rest.0 rest.1), rest.2)
  has_original (n ∷ nets) os (inr off) (suc i) d below on = has_original nets os off.1 i d (omega (arith, below)) on

  -- and each original block is some net's
  pub from_net : (nets : List NetPlan) (os : List Original) → AreOriginals m c nets os → (o : Original) → Contains os o →
      (j : ℕ) × (j < length nets) × ((d : NetPlan) → IsOriginalOf m (get_or nets j d) c o)
  from_net [] os are o has = absurd (Contains-none o (subst (λ (l : List Original). Contains l o) are has))
  from_net (n ∷ nets) os (inl on) o has = elim (Contains-cases on.1 on.3 o (subst (λ (l : List Original). Contains l o) on.4 has)) [
    | inl is ↦ (0, omega arith, λ d. subst (IsOriginalOf m n c) is on.2)
    | inr rest ↦ let found = from_net nets on.3 on.5 o rest in (suc found.0, omega (arith, found.1), found.2)
  ]
  from_net (n ∷ nets) os (inr off) o has = let found = from_net nets os off.1 o has in (suc found.0, omega (arith, found.1), found.2)

-- ---- one table

served_each : (ks : List Mark) → served (map row_of_mark ks) ≡ map original_of ks
served_each [] = refl
served_each (k ∷ ks) = ap (λ l. original_of k ∷ l) (served_each ks)

pub not_after : (r s : Row) → IsRowNotAfter r s → generality r.block ≤ generality s.block
not_after r s (inl less) = omega (arith, less)
not_after r s (inr same) = let is : generality r.block ≡ generality s.block = same.0 in omega (arith, is)

holds_own : (k : Mark) → HoldsItsAliases (row_of_mark k)
holds_own k = All-cons (λ (a : Alias). LiesIn a.block k.block) (record { block = k.block; port = k.port }) [] (λ key small at. at) (All-nil (λ (a : Alias). LiesIn a.block k.block))

misses_other : (k l : Mark) → ¬ (Intersects k.block l.block) → Misses k.block (row_of_mark l)
misses_other k l apart = All-cons (λ (a : Alias). ¬ (Intersects k.block a.block)) (record { block = l.block; port = l.port }) [] apart (All-nil (λ (a : Alias). ¬ (Intersects k.block a.block)))

pub few_originals : (m : Description) (c : Chip) (nets : List NetPlan) (os : List Original) → AreOriginals m c nets os → length os ≤ length nets
few_originals m c [] os are = let none : length os ≡ 0 = ap length are in omega (arith, none)
few_originals m c (n ∷ nets) os (inl on) = grind (arith, few_originals m c nets on.3 on.5)
few_originals m c (n ∷ nets) os (inr off) = let rest : length os ≤ length nets = few_originals m c nets os off.1 in omega (arith, rest)

-- the original blocks of a chip are no more than the nets, and no key is in two of them
module _ (m : Description) (nets : List NetPlan) (c : Chip) (marks : List Mark) (are : AreOriginals m c nets (map original_of marks)) where
  pub few_marks : length marks ≤ length nets
  few_marks = subst (λ n. n ≤ length nets) (length-map marks original_of) (few_originals m c nets (map original_of marks) are)

  pub marks_apart : AllPairs (λ (a b : NetPlan). ¬ (Intersects a.block b.block)) nets → AreApart marks
  marks_apart apart =
      AllPairs-from_map original_of (λ (a b : Original). ¬ (Intersects a.block b.block)) marks (originals_apart m c nets (map original_of marks) are apart)

-- the table of original blocks has as many rows, and is sound where no key is in two of them
module _ (marks : List Mark) (t : Table) (is : IsTableOf marks t) where
  pub as_many_rows : length t.rows ≡ length marks
  as_many_rows = ap length is.rows_are ∙ (length-map is.sorted row_of_mark ∙ length_permutation marks is.sorted is.same)

  pub sound_table : AreApart marks → IsSound t.rows
  sound_table apart =
      let on_sorted : AreApart is.sorted =
      AllPairs-permutation (λ (a b : Mark). ¬ (Intersects a.block b.block)) (λ a b none meet. none (Intersects-sym b.block a.block meet)) marks is.sorted is.same apart in
      record {
        ordered = λ i j d less below. not_after (get_or t.rows i d) (get_or t.rows j d) (is.in_order i j d less below);
        inside = subst (All HoldsItsAliases) (sym is.rows_are) (All-map HoldsItsAliases row_of_mark is.sorted (λ i d below. holds_own (get_or is.sorted i d)));
        unmet = subst (AllPairs (λ (r s : Row). Misses r.block s)) (sym is.rows_are)
            (AllPairs-map row_of_mark (λ (a b : Mark). ¬ (Intersects a.block b.block)) (λ (r s : Row). Misses r.block s) (λ a b none. misses_other a b none) is.sorted on_sorted);
      }

module _ (m : Description) (nets : List NetPlan) (c : Chip) (marks : List Mark) (t : Table) (are : AreOriginals m c nets (map original_of marks)) (is : IsTableOf marks t) where
  pub few_rows : length t.rows ≤ length nets
  few_rows = subst (λ n. n ≤ length nets) (sym (as_many_rows marks t is)) (few_marks m nets c marks are)

  pub is_plain : IsPlainTable m nets c t.rows
  is_plain = grind (arith, map_twice marks, IsPermutation-map row_of_mark marks is.sorted is.same)

  pub serves_them : ServesOriginals m nets c t.rows
  serves_them = grind (arith, served_each is.sorted, IsPermutation-map original_of marks is.sorted is.same)

  pub is_sound : AllPairs (λ (a b : NetPlan). ¬ (Intersects a.block b.block)) nets → IsSound t.rows
  is_sound apart = sound_table marks t is (marks_apart m nets c marks are apart)

-- ---- lookup

entry_at : Mark → Entry
entry_at k = entry_of (row_of_mark k)

found : (key : ℕ) (o : Out) (other : Route) (w : Bool) (rest : List Entry) (ks : List Mark) (x : Mark) → Contains ks x → matches (entry_at x) key ≡ true →
    ((k : Mark) → Contains ks k → matches (entry_at k) key ≡ true → has k.route o ≡ w) →
    has (option_map_or (λ (e : Entry). e.route) (find (λ (e : Entry). matches e key) (map entry_at ks ++ rest)) other) o ≡ w
unfolding entry_at
found key o other w rest [] x there hit each = absurd (Contains-none x there)
found key o other w rest (k ∷ ks) x there hit each = elim (cases_Bool (matches (entry_at k) key)) [
  | inl mine ↦
      ap (λ b. has (option_map_or (λ (e : Entry). e.route) (cond b (Some (entry_at k)) (find (λ (e : Entry). matches e key) (map entry_at ks ++ rest))) other) o) mine
      ∙ each k (Contains-first k ks) mine
  | inr not_mine ↦
      ap (λ b. has (option_map_or (λ (e : Entry). e.route) (cond b (Some (entry_at k)) (find (λ (e : Entry). matches e key) (map entry_at ks ++ rest))) other) o) not_mine
      ∙ found key o other w rest ks x (elim (Contains-cases k ks x there) [
        | inl is ↦ absurd (false≢true (sym not_mine ∙ (ap (λ (y : Mark). matches (entry_at y) key) is ∙ hit)))
        | inr after ↦ after
      ]) hit (λ l has_l. each l (Contains-later k ks l has_l))
]

module _ (m : Description) (nets : List NetPlan) (c : Chip) (marks : List Mark) (t : Table) (are : AreOriginals m c nets (map original_of marks)) (is : IsTableOf marks t)
    (apart : AllPairs (λ (a b : NetPlan). ¬ (Intersects a.block b.block)) nets) where
  -- no key is that of two nets
  one_net : (i j : ℕ) (d : NetPlan) (key : ℕ) → i < length nets → j < length nets → IsKeyOf (get_or nets i d).block key → IsKeyOf (get_or nets j d).block key → i ≡ j
  one_net i j d key i_in j_in first_has second_has = elim (cases_eq i j) [
    | inl same ↦ same
    | inr other ↦ elim (cases_lt i j) [
      | inl less ↦ absurd (apart i j d less j_in (record { key = key; small = first_has.fits; first = first_has.matches; second = second_has.matches }))
      | inr more ↦ absurd (apart j i d (omega (arith, other, more)) i_in (record { key = key; small = first_has.fits; first = second_has.matches; second = first_has.matches }))
    ]
  ]

  pub looked_up : (i : ℕ) (d : NetPlan) (key : ℕ) (port : Port) (o : Out) (rest : List Entry) → i < length nets → HasChip m (get_or nets i d) c → IsKeyOf (get_or nets i d).block key → IsOutput o →
      has (lookup (entries t ++ rest) key port) o ≡ is_wanted (get_or nets i d).tree.edges (get_or nets i d).targets c o
  unfolding entry_at
  looked_up i d key port o rest i_in on k valid =
      let net : NetPlan = get_or nets i d in
      let w : Bool = is_wanted net.tree.edges net.targets c o in
      let mine = has_original m c nets (map original_of marks) are i d i_in on in
      let mark = Contains-unmap original_of marks mine.0 mine.1 in
      let there : Contains is.sorted mark.0 = Contains-permutation marks is.sorted mark.0 is.same mark.1 in
      let block_is : mark.0.block ≡ net.block = ap (λ (x : Original). x.block) mark.2 ∙ mine.2.keys in
      let hit : matches (entry_at mark.0) key ≡ true = eq-eqb (bit_and key mark.0.block.mask) mark.0.block.key
      (ap (λ (b : Block). bit_and key b.mask) block_is ∙ (k.matches ∙ sym (ap (λ (b : Block). b.key) block_is))) in
      let each : (l : Mark) → Contains is.sorted l → matches (entry_at l) key ≡ true → has l.route o ≡ w =
      (λ l l_in l_hit.
      let back : Contains marks l = Contains-permutation is.sorted marks l (IsPermutation-sym marks is.sorted is.same) l_in in
      let from = from_net m c nets (map original_of marks) are (original_of l) (Contains-map original_of marks l back) in
      let its = from.2 d in
      let its_key : IsKeyOf (get_or nets from.0 d).block key = record {
        fits = k.fits;
        matches = ap (λ (b : Block). bit_and key b.mask) (sym its.keys) ∙ (eqb-true (bit_and key l.block.mask) l.block.key l_hit ∙ ap (λ (b : Block). b.key) its.keys);
      } in
      let same : from.0 ≡ i = one_net from.0 i d key from.1 i_in its_key k in
      its.outputs o valid ∙ ap (λ n. is_wanted (get_or nets n d).tree.edges (get_or nets n d).targets c o) same) in
      ap (λ (rows : List Row). has (lookup (map entry_of rows ++ rest) key port) o) is.rows_are
      ∙ (ap (λ (es : List Entry). has (lookup (es ++ rest) key port) o) (entries_twice is.sorted)
      ∙ found key o (default_route port) w rest is.sorted mark.0 there hit each)

-- ---- all tables

module _ (m : Description) (nets : List NetPlan) (lists : List (List Mark)) (routed : AreRoutedApart m nets) (are : AreBlocksOf m nets lists) where
  -- what holds of each chip's original blocks holds of each list
  each_list : (P : List Mark → Type 0) → ((c : Chip) (marks : List Mark) → AreOriginals m c nets (map original_of marks) → P marks) → All P lists
  each_list P from k d below =
      let at : index_of m (chip_of m k) ≡ k = index_of-chip_of m k in
      from (chip_of m k) (get_or lists k d)
      (subst (λ (marks : List Mark). AreOriginals m (chip_of m k) nets (map original_of marks)) (ap (λ j. get_or lists j []) at ∙ get_or_default lists k [] d below)
      (are.blocks (chip_of m k) (chip_of-inside m k (subst (λ n. k < n) are.long below))))

  pub all_few_marks : All (λ (marks : List Mark). length marks ≤ length nets) lists
  all_few_marks = each_list (λ marks. length marks ≤ length nets) (λ c marks originals. few_marks m nets c marks originals)

  pub all_apart : All AreApart lists
  all_apart = each_list AreApart (λ c marks originals. marks_apart m nets c marks originals routed.apart)

-- the same of those that do not go straight on
module _ (m : Description) (nets : List NetPlan) (lists : List (List Mark)) (routed : AreRoutedApart m nets) (are : AreTurningBlocksOf m nets lists) where
  each_turning : (P : List Mark → Type 0) → ((c : Chip) (marks : List Mark) → AreOriginals m c nets (map original_of marks) → P (filter turns marks)) → All P lists
  each_turning P from k d below =
      let at : index_of m (chip_of m k) ≡ k = index_of-chip_of m k in
      let here = are.blocks (chip_of m k) (chip_of-inside m k (subst (λ n. k < n) are.long below)) in
      subst P (sym here.2 ∙ (ap (λ j. get_or lists j []) at ∙ get_or_default lists k [] d below)) (from (chip_of m k) here.0 here.1)

  pub few_turning : All (λ (marks : List Mark). length marks ≤ length nets) lists
  few_turning = each_turning (λ marks. length marks ≤ length nets) (λ c marks originals.
      let all : length marks ≤ length nets = few_marks m nets c marks originals in
      let both : length (filter turns marks) + length (filter (λ k. not (turns k)) marks) ≡ length marks =
      length-filter_both turns (λ k. not (turns k)) (λ k. refl) marks in
      omega (arith, all, both))

  pub turning_apart : All AreApart lists
  turning_apart = each_turning AreApart (λ c marks originals.
      AllPairs-filter (λ (a b : Mark). ¬ (Intersects a.block b.block)) turns marks (marks_apart m nets c marks originals routed.apart))

module _ (m : Description) (nets : List NetPlan) (lists : List (List Mark)) (tables : List Table) (routed : AreRoutedApart m nets) (are : AreBlocksOf m nets lists)
    (each : AllZip IsTableOf lists tables) where
  all_long : length tables ≡ m.width * m.height
  all_long = AllZip-long IsTableOf lists tables each ∙ are.long

  -- what holds of the table of a chip's original blocks holds at each chip
  at_each : (P : Chip → List Row → Type 0) → ((c : Chip) (marks : List Mark) (t : Table) → AreOriginals m c nets (map original_of marks) → IsTableOf marks t → P c t.rows) → AtEach m tables P
  at_each P from c t inside at = from c (get_or lists (index_of m c) []) t (are.blocks c inside) (table_of_list lists tables each (index_of m c) t at)

  all_followed : (rest : Table → List Entry) → AreRight m (map (λ (t : Table). entries t ++ rest t) tables) nets
  all_followed rest i d i_in c port key o comes k valid =
      let net : NetPlan = get_or nets i d in
      let on : HasChip m net c = comes_in_tree m net.tree.root net.tree.edges c port comes in
      let inside : IsInside m c = chips_inside m net.tree.root net.tree.edges net.targets (routed.trees i d i_in) (routed.roots i d i_in) c on in
      let below : index_of m c < length tables = subst (λ n. index_of m c < n) (sym all_long) (index_below m c inside) in
      let at = at_map (λ (t : Table). entries t ++ rest t) tables (index_of m c) below in
      ap (λ (es : List Entry). has (lookup es key port) o) at.2
      ∙ looked_up m nets c (get_or lists (index_of m c) []) at.0 (are.blocks c inside) (table_of_list lists tables each (index_of m c) at.0 at.1) routed.apart
      i d key port o (rest at.0) i_in on k valid

  all_right : AreRight m (map entries tables) nets
  all_right = subst (λ (f : Table → List Entry). AreRight m (map f tables) nets) alike (all_followed (λ t. []))
    where
      alike : ◌≡◌ {A = Table → List Entry} (λ t. entries t ++ []) entries
      alike = λ i t. append-nil (entries t) i

  pub all_plain_tables : ArePlainTables m nets tables
  all_plain_tables = record {
    long = all_long;
    plain = at_each (IsPlainTable m nets) (is_plain m nets);
    few = at_each (λ c rows. length rows ≤ length nets) (few_rows m nets);
    sound = at_each (λ c rows. IsSound rows) (λ c marks t originals is. is_sound m nets c marks t originals is routed.apart);
    serves = at_each (ServesOriginals m nets) (serves_them m nets);
    right = all_right;
    followed = all_followed;
  }
