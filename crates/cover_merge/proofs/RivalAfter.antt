-- The rivals of rows in the table after a merge.
use Rattle.cover_merge.proofs.Common.{All, All-append, All-cons, All-drop, All-filter, All-head, All-tail, All-take, AllPairs, AllPairs-cons, AllPairs-filter, AreMet, AreRivalsAfter, AreRivalsAt}
use Rattle.cover_merge.proofs.Common.{AreSpansOf, Block, Bool, HasSerial, IsLegal, IsMergeSet, IsPutIn, IsRivalBehind, IsRivalOf, IsRivaled, IsSound, List, MeetsNone, Misses, Rival, Rivals, Row, []}
use Rattle.cover_merge.proofs.Common.{after, any-filter_same, ap, arith, below_more, cases_eq, cases_lt, drop, eq-eqb, eqb-true, false, false_from_ne_true, filter, filter_passes, generality, get_or}
use Rattle.cover_merge.proofs.Common.{get_or-append_seam, get_or-drop, get_or-take, get_or_append_left, has_row, inl, inr, insert, insert_place, is_at_one, length, length-append, length-drop}
use Rattle.cover_merge.proofs.Common.{length-take, merge_rows, merged_block, merged_row, ne_eqb, not, not-true, not_from_false, place_for, refl, rivals_left, subst, subst₂, sym, take}
use Rattle.cover_merge.proofs.Common.{take-append-drop, true, ℕ, ◌++◌, ◌+◌, ◌<◌, ◌==◌, ◌^◌, ◌||◌, ◌∙◌, ◌∷◌, ◌≡◌, ◌≢◌, ◌≤◌, ◌⊎◌}
use Rattle.cover_merge.proofs.KeptLemmasMoved.{onto, all_carried, length_carried, rank_length, merged_get, moved, merged_at, moved_get, item_moved, item_merged}
use Rattle.cover_merge.proofs.{RivalLemmas.listed_among, Lists.AllPairs-append, Lists.AllPairs-left, Lists.AllPairs-right, Lists.AllPairs-across, Legal.narrower_misses, Legal.member_lies}
use Rattle.cover_merge.proofs.{Positions.has-place, Positions.place_for-le, ApplyLemmas.left, ApplyLemmas.members_before, ApplyLemmas.block_is, ApplyLemmas.route_is, CoverLemmas.length_out}
use Rattle.cover_merge.proofs.{CoverLemmas.shorter, KeptLemmas.from_less, KeptLemmas.to_less}

-- ---- numbers in a list of rivals

-- one that passes the test stays
listed_filter : (f : Rival → Bool) (list : List Rival) (n : ℕ) → ((v : Rival) → v.serial ≡ n → f v ≡ true) → HasSerial list n → HasSerial (filter f list) n
listed_filter f list n pass is = any-filter_same (λ (v : Rival). v.serial == n) f true (λ v same. pass v (eqb-true v.serial n same)) list ∙ is

-- ---- one that is put in

abbrev IsNoMore : Rival → Rival → Type 0
IsNoMore v w = v.general ≤ w.general

ordered_insert : (v : Rival) (old new : List Rival) → IsPutIn v old new → AllPairs IsNoMore old → AllPairs IsNoMore new
ordered_insert v old new put ordered =
    let later : All (IsNoMore v) (drop put.at old) =
    λ k d within. subst (IsNoMore v) (sym (get_or-drop put.at old k d)) (put.behind (put.at + k) d (omega arith) (omega (arith, length-drop put.at old, within))) in
    let earlier : All (λ x. IsNoMore x v) (take put.at old) = λ k d within. let less : k < put.at = omega (arith, length-take put.at old, within) in
    subst (λ x. IsNoMore x v) (sym (get_or-take put.at old k d less)) (put.before k d less) in
    let n = put.at in
    let whole : AllPairs IsNoMore (take n old ++ drop n old) = subst (AllPairs IsNoMore) (sym (take-append-drop n old)) ordered in
    let across = AllPairs-across IsNoMore (take n old) (drop n old) whole in
    subst (AllPairs IsNoMore) (sym put.result)
    (AllPairs-append IsNoMore (take n old) (v ∷ drop n old) (AllPairs-left IsNoMore (take n old) (drop n old) whole)
    (AllPairs-cons IsNoMore v (drop n old) later (AllPairs-right IsNoMore (take n old) (drop n old) whole))
    (λ k d within. All-cons (IsNoMore (get_or (take n old) k d)) v (drop n old) (earlier k d within) (across k d within)))

all_insert : (P : Rival → Type 0) (v : Rival) (old new : List Rival) → IsPutIn v old new → P v → All P old → All P new
all_insert P v old new put here all =
    subst (All P) (sym put.result)
    (All-append P (take put.at old) (v ∷ drop put.at old) (All-take P put.at old all) (All-cons P v (drop put.at old) here (All-drop P put.at old all)))

-- ---- rows at the places, by their numbers

module _ (rows : List Row) (serials places : List ℕ) (apart : (i j : ℕ) → i < length rows → j < length rows → get_or serials i 0 ≡ get_or serials j 0 → i ≡ j) where
  -- numbers are one where the rows are
  same_serial : (i j : ℕ) → i < length rows → j < length rows → (get_or serials i 0 == get_or serials j 0) ≡ (i == j)
  same_serial i j in_i in_j = grind (arith, cases_eq i j, get_or serials i 0, get_or serials j 0, eq-eqb, ne_eqb)

  at_place : (set : List ℕ) (r : ℕ) → All (λ s. s < length rows) set → r < length rows → is_at_one serials set (get_or serials r 0) ≡ has_row set r
  at_place [] r in_range inside = refl
  at_place (s ∷ set) r in_range inside =
      ap (λ b. b || is_at_one serials set (get_or serials r 0)) (same_serial s r (All-head (λ x. x < length rows) s set in_range) inside)
      ∙ ap (λ b. (s == r) || b) (at_place set r (All-tail (λ x. x < length rows) s set in_range) inside)

  module _ (in_range : All (λ s. s < length rows) places) (s : ℕ) (block : Block) (merged : Rival) where
    -- a rival of a row, in the table after the merge
    abbrev IsRivalAfter : Rival → Type 0
    IsRivalAfter v = ((v ≡ merged) × ((d : Row) → Misses block (get_or rows s d) → ⊥)) ⊎ ((it : IsRivalBehind rows serials s v) × (has_row places it.place ≡ false))

    -- The merge meets an alias of the row: those that are merged go, and the merged row comes.
    pub renewed : (old new : List Rival) → ((d : Row) → Misses block (get_or rows s d) → ⊥) → AreRivalsAt rows serials s old → IsPutIn merged (rivals_left serials places old) new → AreRivalsAfter rows serials places block merged s new
    renewed old new meets was put = record {
      ordered = ordered_insert merged (rivals_left serials places old) new put (AllPairs-filter IsNoMore left_out old was.ordered);
      each = all_insert IsRivalAfter merged (rivals_left serials places old) new put (inl (refl, meets)) left_each;
      all = λ r behind inside out. by_case r inside out (was.all r behind inside);
      own = inr (subst (λ l. HasSerial l merged.serial) (sym put.result) (listed_among (take put.at left_now) (drop put.at left_now) merged merged.serial (inl refl)));
    }
      where
        left_now : List Rival
        left_now = rivals_left serials places old

        left_out : Rival → Bool
        left_out v = not (is_at_one serials places v.serial)

        left_each : All IsRivalAfter (rivals_left serials places old)
        left_each k d within =
            let it = All-filter left_out (IsRivalBehind rows serials s) old was.each k d within in
            let passes = filter_passes left_out old k d within in
            inr (it, sym (at_place places it.place in_range it.is.inside) ∙ ap (is_at_one serials places) (sym it.is.serial) ∙ not-true (is_at_one serials places (get_or (rivals_left serials places old) k d).serial) passes)

        by_case : (r : ℕ) → r < length rows → has_row places r ≡ false → (MeetsNone rows r s) ⊎ (HasSerial old (get_or serials r 0)) → (MeetsNone rows r s) ⊎ (HasSerial new (get_or serials r 0))
        by_case r inside out (inl none) = inl none
        by_case r inside out (inr found) = inr (subst (λ l. HasSerial l (get_or serials r 0)) (sym put.result)
            (listed_among (take put.at left_now) (drop put.at left_now) merged (get_or serials r 0) (inr (subst (λ l. HasSerial l (get_or serials r 0)) (sym (take-append-drop put.at left_now))
            (listed_filter left_out old (get_or serials r 0)
            (λ v is. not_from_false (is_at_one serials places v.serial) (ap (is_at_one serials places) is ∙ at_place places r in_range inside ∙ out)) found)))))

    -- The merge misses the row, so no member is a rival of it: the list stays.
    pub unmet : (list : List Rival) → IsMergeSet rows places → block ≡ merged_block rows places → ((d : Row) → Misses block (get_or rows s d)) → AreRivalsAt rows serials s list → AreRivalsAfter rows serials places block merged s list
    unmet list set is misses was = record {
      ordered = was.ordered;
      each = λ k d within.
          let it = was.each k d within in
          let e = merge_rows [] in
          inr (
            it,
            false_from_ne_true (has_row places it.place) (λ found.
                it.meets e (narrower_misses block (get_or rows it.place e).block (get_or rows s e) (member_lies rows places set block is it.place e found) (misses e))),
          );
      all = λ r behind inside out. was.all r behind inside;
      own = inl misses;
    }

-- ---- one row after the other

-- The rows at the first places of those that are met have their rivals after the merge, and all others as they were.
pub record AreRenewed (rows : List Row) (serials places : List ℕ) (block : Block) (merged : Rival) (met : List ℕ) (k : ℕ) (old now : List (List Rival)) : Type 0 where
  pub done : (i : ℕ) → i < k → AreRivalsAfter rows serials places block merged (get_or met i 0) (get_or now (get_or serials (get_or met i 0) 0) [])
  pub others : (s : ℕ) → s < length rows → ((i : ℕ) → i < k → get_or met i 0 ≢ s) → get_or now (get_or serials s 0) [] ≡ get_or old (get_or serials s 0) []

module _ (rows : List Row) (serials places : List ℕ) (block : Block) (merged : Rival) (met : List ℕ) (are_met : AreMet block rows met) (old : List (List Rival))
    (each : (s : ℕ) → s < length rows → AreRivalsAt rows serials s (get_or old (get_or serials s 0) [])) (apart : (i j : ℕ) → i < length rows → j < length rows → get_or serials i 0 ≡ get_or serials j 0 → i ≡ j) (set : IsMergeSet rows places) where
  met_inside : (i : ℕ) → i < length met → get_or met i 0 < length rows
  met_inside i within = are_met.inside i 0 within

  -- the next row has its rivals as they were
  pub next_list : (k : ℕ) (now : List (List Rival)) → k < length met → AreRenewed rows serials places block merged met k old now → AreRivalsAt rows serials (get_or met k 0) (get_or now (get_or serials (get_or met k 0) 0) [])
  next_list k now within so_far =
      let s = get_or met k 0 in
      subst (AreRivalsAt rows serials s) (sym (so_far.others s (met_inside k within) (λ i less same. omega (arith, same, are_met.ascending i k 0 less within)))) (each s (met_inside k within))

  pub one_renewed : (k : ℕ) (now new : List (List Rival)) → k < length met → AreRenewed rows serials places block merged met k old now
      → IsPutIn merged (rivals_left serials places (get_or now (get_or serials (get_or met k 0) 0) [])) (get_or new (get_or serials (get_or met k 0) 0) [])
      → ((n : ℕ) → n ≢ get_or serials (get_or met k 0) 0 → get_or new n [] ≡ get_or now n []) → AreRenewed rows serials places block merged met (k + 1) old new
  one_renewed k now new within so_far put others = record {
    done = below_more (λ i. AreRivalsAfter rows serials places block merged (get_or met i 0) (get_or new (get_or serials (get_or met i 0) 0) [])) k
        (λ i earlier.
        let s = get_or met i 0 in
        let differ : get_or serials s 0 ≢ get_or serials (get_or met k 0) 0 =
        λ same. omega (arith, apart s (get_or met k 0) (met_inside i (omega (arith, earlier, within))) (met_inside k within) same, are_met.ascending i k 0 earlier within) in
        subst (AreRivalsAfter rows serials places block merged s) (sym (others (get_or serials s 0) differ)) (so_far.done i earlier))
        (renewed rows serials places apart set.set.in_range (get_or met k 0) block merged (get_or now (get_or serials (get_or met k 0) 0) [])
        (get_or new (get_or serials (get_or met k 0) 0) []) (are_met.each k 0 within)
        (next_list k now within so_far) put);
    others = λ s inside differ. others (get_or serials s 0) (λ same. differ k (omega arith) (sym (apart s (get_or met k 0) inside (met_inside k within) same))) ∙ so_far.others s inside (λ i less. differ i (omega (arith, less)));
  }

  -- at the end, rows that are not met have the same rivals after the merge
  pub all_renewed : (k : ℕ) (now : List (List Rival)) → block ≡ merged_block rows places → k ≡ length met → AreRenewed rows serials places block merged met k old now
      → (s : ℕ) → s < length rows → AreRivalsAfter rows serials places block merged s (get_or now (get_or serials s 0) [])
  all_renewed k now is all so_far s inside = elim (are_met.rest s inside) [
    | inl misses ↦
        let d = merge_rows [] in
        let same = so_far.others s inside (λ i less at. are_met.each i 0 (omega (arith, less, all)) d (subst (λ t. Misses block (get_or rows t d)) (sym at) (misses d))) in
        unmet rows serials places apart set.set.in_range s block merged (get_or now (get_or serials s 0) []) set is misses (subst (AreRivalsAt rows serials s) (sym same) (each s inside))
    | inr found ↦ grind (arith, has-place met s found, get_or)
  ]

-- ---- where the merged row stands

-- the merged row stands before its insertion place by as many as are merged
pub stands_at : (rows : List Row) (places : List ℕ) → IsSound rows → IsMergeSet rows places → merged_at rows places + length places ≡ insert_place rows places
stands_at rows places sound set =
    let p = insert_place rows places in
    let q : ℕ → Bool = λ j. not (has_row places j) in
    let long : 0 + length (take p rows) ≡ p = omega (arith, length-take p rows, place_for-le rows (generality (merged_block rows places))) in
    let out = length_out (take p rows) places set.set.ascending (λ k d within. omega (arith, long, members_before rows places sound.ordered set.set.in_range k d within)) in
    omega (arith, out, rank_length q 0 p (take p rows) (sym long))

-- the insertion place, as the code finds it
pub place_is : (rows one two : List Row) (places members : List ℕ) (general place : ℕ) → one ≡ rows → two ≡ rows → members ≡ places → general ≡ generality (merged_block one members) → place ≡ place_for two general → place ≡ insert_place rows places
place_is rows one two places members general place first second same level found = grind arith

-- ---- the rivals of all rows after a merge

module _ (rows : List Row) (places : List ℕ) (sound : IsSound rows) (set : IsMergeSet rows places) (serials : List ℕ) (one_each : length serials ≡ length rows) (n : ℕ) where
  abbrev new : List Row
  new = after rows places

  abbrev to : ℕ → ℕ
  to = moved rows places

  abbrev at : ℕ
  at = merged_at rows places

  abbrev carried : List ℕ
  carried = left places 0 (insert serials (insert_place rows places) n)

  abbrev grown : List Row
  grown = insert rows (insert_place rows places) (merged_row rows places)

  pub carried_length : length carried ≡ length new
  carried_length = length_carried rows places sound.ordered set.set.in_range serials n one_each

  pub at_inside : at < length new
  at_inside = (merged_get rows places sound.ordered set.set.in_range (merged_row rows places)).0

  row_at : (d : Row) → get_or new at d ≡ merged_row rows places
  row_at d = (merged_get rows places sound.ordered set.set.in_range d).1

  -- the block of the merged row
  block_at : (d : Row) → (get_or new at d).block ≡ merged_block rows places
  block_at d = ap (λ (r : Row). r.block) (row_at d) ∙ block_is rows places sound.ordered set.set.in_range

  row_to : (k : ℕ) (d : Row) → k < length rows → has_row places k ≡ false → get_or new (to k) d ≡ get_or rows k d
  row_to k d inside out = (moved_get rows places sound.ordered set.set.in_range k d inside out).1

  serial_to : (k : ℕ) → k < length rows → has_row places k ≡ false → get_or carried (to k) 0 ≡ get_or serials k 0
  serial_to k inside out = (item_moved rows places sound.ordered set.set.in_range serials n one_each k 0 (omega (arith, inside, one_each)) out).1

  serial_at : get_or carried at 0 ≡ n
  serial_at = (item_merged rows places sound.ordered set.set.in_range serials n one_each 0).1

  abbrev CameFrom : ℕ → Type 0
  CameFrom l = ((k : ℕ) × (k < length rows) × (has_row places k ≡ false) × (to k ≡ l)) ⊎ (l ≡ at)

  came_from : (l : ℕ) → l < length new → CameFrom l
  came_from = onto rows places sound.ordered set.set.in_range

  -- ---- numbers

  module _ (legal : IsLegal rows places) (below : All (λ k. k < n) serials) (apart : (i j : ℕ) → i < length rows → j < length rows → get_or serials i 0 ≡ get_or serials j 0 → i ≡ j) where
    in_use : (k : ℕ) → k < length rows → get_or serials k 0 < n
    in_use k inside = below k 0 (omega (arith, inside, one_each))

    carried_below : All (λ k. k < n + 1) carried
    carried_below l d within = all_carried rows places sound.ordered set.set.in_range serials n one_each (λ k r. k < n + 1) d (merged_row rows places)
        (λ k inside. omega (arith, below k d inside)) (omega arith) l within

    carried_apart : (i j : ℕ) → i < length new → j < length new → get_or carried i 0 ≡ get_or carried j 0 → i ≡ j
    carried_apart i j in_i in_j same = by_cases (came_from i in_i) (came_from j in_j)
      where
        read : (k l : ℕ) → k < length rows → has_row places k ≡ false → to k ≡ l → get_or carried l 0 ≡ get_or serials k 0
        read k l inside out is = ap (λ m. get_or carried m 0) (sym is) ∙ serial_to k inside out

        read_at : (l : ℕ) → l ≡ at → get_or carried l 0 ≡ n
        read_at l is = ap (λ m. get_or carried m 0) is ∙ serial_at

        by_cases : CameFrom i → CameFrom j → i ≡ j
        by_cases (inl (k, inside, out, is)) (inl (m, within, gone, to_m)) =
            sym is ∙ ap to (apart k m inside within (sym (read k i inside out is) ∙ same ∙ read m j within gone to_m)) ∙ to_m
        by_cases (inl (k, inside, out, is)) (inr last) = absurd (omega (arith, in_use k inside, read k i inside out is, same, read_at j last))
        by_cases (inr first) (inl (m, within, gone, to_m)) = absurd (omega (arith, in_use m within, read m j within gone to_m, same, read_at i first))
        by_cases (inr first) (inr last) = first ∙ sym last

    -- ---- the rivals of a row that moved

    module _ (merged : Rival) (serial : merged.serial ≡ n) (general : merged.general ≡ generality (merged_block rows places)) (bits : (d : Row) → merged.bits ≡ (get_or rows (get_or places 0 0) d).route.bits) where
      merged_is : IsRivalOf new carried at merged
      merged_is = grind (arith, at_inside, serial_at, block_at, row_at, route_is)

      module _ (k : ℕ) (inside : k < length rows) (out : has_row places k ≡ false) (list : List Rival) (was : AreRivalsAfter rows serials places (merged_block rows places) merged k list) where
        -- no row before a row meets an alias of it, as the table after the merge is sound
        merged_behind : ((d : Row) → Misses (merged_block rows places) (get_or rows k d) → ⊥) → (to k < at) ⊎ (at ≤ to k) → to k < at
        merged_behind meets (inl less) = less
        merged_behind meets (inr le) = elim (cases_lt at (to k)) [
          | inl less ↦
              let d = merged_row rows places in
              absurd (meets d (subst (Misses (merged_block rows places)) (row_to k d inside out) (subst (λ b. Misses b (get_or new (to k) d)) (block_at d)
              (legal.unmet at (to k) d less (moved_get rows places sound.ordered set.set.in_range k d inside out).0))))
          | inr most ↦ grind (arith, in_use k inside, serial_to k inside out, serial_at, get_or)
        ]

        each_after : All (IsRivalBehind new carried (to k)) list
        each_after i e within = by_case (was.each i e within)
          where
            by_case : ((get_or list i e ≡ merged) × ((d : Row) → Misses (merged_block rows places) (get_or rows k d) → ⊥)) ⊎ ((it : IsRivalBehind rows serials k (get_or list i e)) × (has_row places it.place ≡ false)) → IsRivalBehind new carried (to k) (get_or list i e)
            by_case (inl (is, meets)) = record {
              place = at;
              behind = merged_behind meets (cases_lt (to k) at);
              is = subst (IsRivalOf new carried at) (sym is) merged_is;
              meets = λ d misses. meets d (subst (Misses (merged_block rows places)) (row_to k d inside out) (subst (λ b. Misses b (get_or new (to k) d)) (block_at d) misses));
            }
            by_case (inr (it, gone)) = record {
              place = to it.place;
              behind = to_less rows places sound set legal k it.place out it.behind;
              is = record {
                inside = (moved_get rows places sound.ordered set.set.in_range it.place (merged_row rows places) it.is.inside gone).0;
                serial = it.is.serial ∙ sym (serial_to it.place it.is.inside gone);
                general = λ d. it.is.general d ∙ sym (ap (λ (r : Row). generality r.block) (row_to it.place d it.is.inside gone));
                bits = λ d. it.is.bits d ∙ sym (ap (λ (r : Row). r.route.bits) (row_to it.place d it.is.inside gone));
              };
              meets = λ d misses. it.meets d (subst (λ (r : Row). Misses r.block (get_or rows k d)) (row_to it.place d it.is.inside gone) (subst (Misses (get_or new (to it.place) d).block) (row_to k d inside out) misses));
            }

        all_after : (r : ℕ) → to k < r → r < length new → (MeetsNone new r (to k)) ⊎ (HasSerial list (get_or carried r 0))
        all_after r behind within = elim (came_from r within) [
          | inl (m, inner, gone, is) ↦ elim (was.all m (from_less rows places sound set legal k m gone (omega (arith, behind, is))) inner gone) [
            | inl none ↦ grind (arith, get_or, row_to)
            | inr found ↦ inr (subst (HasSerial list) (sym (ap (λ x. get_or carried x 0) (sym is) ∙ serial_to m inner gone)) found)
          ]
          | inr is ↦ grind (arith, serial_at, get_or, block_at, row_to)
        ]

        row_after : AreRivalsAt new carried (to k) list
        row_after = record { ordered = was.ordered; each = each_after; all = all_after }

      -- ---- all rows

      -- The lists and the spans are those of the numbers, and those of the merged row are the last.
      pub rivaled_after : length rows < 2 ^ 32 → (of : List (List Rival)) (own : List Rival) (rivals : Rivals) → length of ≡ n → ((s : ℕ) → s < length rows → AreRivalsAfter rows serials places (merged_block rows places) merged s (get_or of (get_or serials s 0) []))
          → AreRivalsAt new carried at own → rivals.serials.items ≡ carried → rivals.of.items ≡ of ++ own ∷ []
          → (spans : List (List Block)) (its : List Block) → length spans ≡ n → ((s : ℕ) (d : Row) → s < length rows → AreSpansOf (get_or rows s d).aliases (get_or spans (get_or serials s 0) []))
          → ((d : Row) → AreSpansOf (get_or new at d).aliases its) → rivals.spans.items ≡ spans ++ its ∷ [] → IsRivaled new rivals
      rivaled_after few of own rivals many was last serials_are of_is spans its one_span spanned own_spans spans_are = record {
        few = omega (arith, few, shorter rows places set);
        sound = legal;
        one_each = ap length serials_are ∙ carried_length;
        below = subst (All (λ k. k < length rivals.of.items)) (sym serials_are) (subst (λ m. All (λ k. k < m) carried) (sym longer) carried_below);
        apart = subst (λ l. (i j : ℕ) → i < length new → j < length new → get_or l i 0 ≡ get_or l j 0 → i ≡ j) (sym serials_are) carried_apart;
        each = λ s inside. subst (λ l. AreRivalsAt new l s (get_or rivals.of.items (get_or l s 0) [])) (sym serials_are)
            (subst (λ l. AreRivalsAt new carried s (get_or l (get_or carried s 0) [])) (sym of_is) (by_place s (came_from s inside)));
        as_many = ap length spans_are ∙ length-append spans (its ∷ []) ∙ ap (λ m. m + 1) one_span ∙ sym longer;
        spanned = λ s d inside. subst (λ l. AreSpansOf (get_or new s d).aliases (get_or rivals.spans.items (get_or l s 0) [])) (sym serials_are)
            (subst (λ l. AreSpansOf (get_or new s d).aliases (get_or l (get_or carried s 0) [])) (sym spans_are) (spans_by_place s d (omega (arith, inside, carried_length))));
      }
        where
          longer : length rivals.of.items ≡ n + 1
          longer = ap length of_is ∙ length-append of (own ∷ []) ∙ ap (λ m. m + 1) many

          by_place : (s : ℕ) → CameFrom s → AreRivalsAt new carried s (get_or (of ++ own ∷ []) (get_or carried s 0) [])
          by_place s (inl (k, inside, out, is)) =
              subst (λ x. AreRivalsAt new carried x (get_or (of ++ own ∷ []) (get_or carried x 0) [])) is
              (subst (AreRivalsAt new carried (to k)) (sym (ap (λ m. get_or (of ++ own ∷ []) m []) (serial_to k inside out) ∙ get_or_append_left of (own ∷ []) [] (get_or serials k 0) (omega (arith, in_use k inside, many))))
              (row_after k inside out (get_or of (get_or serials k 0) []) (was k inside)))
          by_place s (inr is) =
              subst (λ x. AreRivalsAt new carried x (get_or (of ++ own ∷ []) (get_or carried x 0) [])) (sym is)
              (subst (AreRivalsAt new carried at) (sym (ap (λ m. get_or (of ++ own ∷ []) m []) (serial_at ∙ sym many) ∙ get_or-append_seam of own [] [])) last)

          spans_by_place : (s : ℕ) (d : Row) → s < length carried → AreSpansOf (get_or new s d).aliases (get_or (spans ++ its ∷ []) (get_or carried s 0) [])
          spans_by_place s d inside = all_carried rows places sound.ordered set.set.in_range serials n one_each (λ k r. AreSpansOf r.aliases (get_or (spans ++ its ∷ []) k [])) 0 d
              (λ k within. subst (AreSpansOf (get_or rows k d).aliases) (sym (get_or_append_left spans (its ∷ []) [] (get_or serials k 0) (omega (arith, below k 0 within, one_span))))
              (spanned k d (omega (arith, within, one_each))))
              (subst₂ (λ (r : Row) l. AreSpansOf r.aliases l) (row_at d) (sym (ap (λ m. get_or (spans ++ its ∷ []) m []) (sym one_span) ∙ get_or-append_seam spans its [] [])) (own_spans d)) s inside
