-- A pair of rows that is legal after a merge was legal before it, where neither loses a row behind it by the merge.
use Rattle.cover_merge.proofs.Common.{All, AreNoLater, AreRivalsAt, AreTouched, AreTriedUpTo, Block, HasSerial, IsFresh, IsLegal, IsLegalPair, IsMergeSet, IsSound, List, LosesNone, MeetsNone, Misses}
use Rattle.cover_merge.proofs.Common.{PassesDown, PassesUp, Rival, Route, Row, Times, [], after, ap, arith, false, generality, get_or, has_row, inl, inr, insert, insert_place, is_at_one, length, map}
use Rattle.cover_merge.proofs.Common.{merge_of, merged_block, merged_row, place_for, place_of_route, rows_at, subst, sym, true, true≢false, ℕ, ◌<◌, ◌∙◌, ◌∷◌, ◌≡◌, ◌≤◌, ◌⊎◌}
use Rattle.cover_merge.proofs.{KeptLemmas.up_from, KeptLemmas.IsOut, KeptLemmas.block_to, KeptLemmas.has_to, KeptLemmas.from_less, KeptLemmas.get_to, KeptLemmasMoved.all_carried}
use Rattle.cover_merge.proofs.{KeptLemmasMoved.length_carried, KeptLemmasMoved.moved, KeptLemmasMoved.item_moved, KeptLemmasMoved.item_merged, KeptLemmasMoved.item_onto, RivalLemmas.serial_at}
use Rattle.cover_merge.proofs.Positions.{both_of, member_le, pair_set, place_for-from, place_for-reach, All-has, at_one_of, has-at, rows_at-has}
use Rattle.cover_merge.proofs.{Legal.Misses-members, Legal.legal_from_checks, Legal.up_from_legal, Legal.down_from_legal, ApplyLemmas.left, ApplyLemmas.block_is, ApplyLemmas.route_is}
use Rattle.cover_merge.proofs.TriedLemmas.{all_before}

-- the merge of the blocks of rows
abbrev block_of : List Row → Block
block_of rows = merge_of (map (λ (x : Row). x.block) rows)

module _ (rows : List Row) (merge : List ℕ) (sound : IsSound rows) (set : IsMergeSet rows merge) (legal : IsLegal rows merge) where
  abbrev new : List Row
  new = after rows merge

  abbrev to : ℕ → ℕ
  to = moved rows merge

  -- a block that misses the rows behind its place after the merge missed those behind its place before it
  down_before : (b : Block) → PassesDown new b (place_for new (generality b)) → PassesDown rows b (place_for rows (generality b))
  down_before b down k d from within =
      let members : (generality b < generality (merged_row rows merge).block → Misses b (merged_row rows merge)) → (k : ℕ) (d : Row)
      → has_row merge k ≡ true → generality b < generality (get_or rows k d).block → Misses b (get_or rows k d) =
      λ of_merge k d found more. rows_at-has (Misses b) rows merge set.set.in_range
      (Misses-members b (rows_at rows merge) (of_merge
      (omega (arith, more, member_le rows merge set.set.in_range k d found, ap generality (block_is rows merge sound.ordered set.set.in_range))))) k d found in
      all_before rows merge sound.ordered set (λ x. generality b < generality x.block → Misses b x) members
      (λ l e inside more. down l e (place_for-reach new (generality b) legal.ordered l e more) inside) k d within (place_for-from rows (generality b) sound.ordered k d within from)

  module _ (i j : ℕ) (in_i : i < length rows) (in_j : j < length rows) (out_i : has_row merge i ≡ false) (out_j : has_row merge j ≡ false) where
    abbrev pair : List ℕ
    pair = i ∷ j ∷ []

    abbrev image : List ℕ
    image = to i ∷ to j ∷ []

    outs : All (IsOut rows merge) pair
    outs = both_of (IsOut rows merge) i j (record { inside = in_i; out = out_i }) (record { inside = in_j; out = out_j })

    block_same : merged_block new image ≡ merged_block rows pair
    block_same = block_to rows merge sound set legal pair outs

    -- the pair is a set, too
    pair_was : IsMergeSet new image → IsMergeSet rows pair
    pair_was was = pair_set rows i j (from_less rows merge sound set legal i j out_j (was.set.ascending 0 1 0 (omega arith) (omega arith))) in_j (λ d.
        ap (λ (r : Row). r.route) (sym (get_to rows merge sound set legal i d in_i out_i))
        ∙ was.set.one_route 0 1 0 (omega arith) (omega arith) d
        ∙ ap (λ (r : Row). r.route) (get_to rows merge sound set legal j d in_j out_j))

    pub pair_before : LosesNone rows merge i → LosesNone rows merge j → IsLegalPair new (to i) (to j) → IsLegalPair rows i j
    pair_before first second was =
        let up_at : (s : ℕ) → s < length rows → has_row merge s ≡ false → LosesNone rows merge s → has_row pair s ≡ true → PassesUp rows pair s (insert_place rows pair) =
        λ s inside out loses found. up_from rows merge sound set legal pair outs (generality (merged_block rows pair)) s (record { inside = inside; out = out }) loses
        (subst (λ b. PassesUp new image (to s) (place_for new (generality b))) block_same
        (up_from_legal new image legal was.set.set.in_range was.legal (to s) (has_to rows merge sound set legal pair s outs out ∙ found))) in
        let now = pair_was was.set in
        let P : ℕ → Type 0 = λ s. PassesUp rows pair s (insert_place rows pair) in
        let all : All P pair = both_of P i j (up_at i in_i out_i first (has-at pair 0 (omega arith))) (up_at j in_j out_j second (has-at pair 1 (omega arith))) in
        record {
          set = now;
          legal = legal_from_checks rows pair sound now.set.in_range (λ s found. All-has P pair s all found)
              (down_before (merged_block rows pair) (subst (λ b. PassesDown new b (place_for new (generality b))) block_same (down_from_legal new image legal was.set.set.in_range was.legal)));
        }

  -- ---- what was tried, and when

  module _ (times : List Times) (nothing : Times) (one_each : length times ≡ length rows) (p : ℕ) (place : p ≡ insert_place rows merge) where
    abbrev carried_times : ℕ → List Times
    carried_times n = left merge 0 (insert times n nothing)

    -- times are those of a row that moved, or those of the merged row
    time_onto : (l : ℕ) (e : Times) → l < length (carried_times (insert_place rows merge))
        → ((k : ℕ) × (k < length times) × (has_row merge k ≡ false) × (to k ≡ l) × (get_or (carried_times (insert_place rows merge)) l e ≡ get_or times k e)) ⊎ (get_or (carried_times (insert_place rows merge)) l e ≡ nothing)
    time_onto l e within = elim (item_onto rows merge sound.ordered set.set.in_range times nothing one_each l within) [
      | inl from ↦ grind (arith, item_moved rows merge sound.ordered set.set.in_range times nothing one_each from.0 e from.1 from.2, get_or)
      | inr is ↦ inr (ap (λ n. get_or (carried_times (insert_place rows merge)) n e) is ∙ (item_merged rows merge sound.ordered set.set.in_range times nothing one_each e).1)
    ]

    -- each row of the table after the merge has its times
    pub carried_length : length (carried_times p) ≡ length new
    carried_length = subst (λ n. length (carried_times n) ≡ length new) (sym place) (length_carried rows merge sound.ordered set.set.in_range times nothing one_each)

    module _ (now : ℕ) (fresh : IsFresh now nothing) where
      marks_after : AreTouched merge now rows times → AreTriedUpTo now rows times → AreTriedUpTo now new (carried_times (insert_place rows merge))
      marks_after touched marks =
          let loses : (k : ℕ) (e : Times) → k < length times → (IsFresh now (get_or times k e) → ⊥) → LosesNone rows merge k =
          λ k e inside stale. elim (touched k e inside) [ inl none ↦ none | inr new_one ↦ absurd (stale new_one) ] in record {
            tried = λ l m e less within earlier pair. elim (time_onto l e (omega (arith, less, within))) [
              | inl (i, in_i, out_i, at_i, is_i) ↦
                  let tried = ap (λ (x : Times). x.tried) is_i in
                  let bound = (marks.bound i e in_i).0 in
                  elim (time_onto m e within) [
                    | inl (j, in_j, out_j, at_j, is_j) ↦ grind (arith, from_less rows merge sound set legal i j out_j (omega (arith, less, at_i, at_j)), pair_before)
                    | inr is ↦ omega (arith, earlier, tried, ap (λ (x : Times). x.changed) is, fresh.changed, bound)
                  ]
              | inr is ↦ omega (arith, earlier, ap (λ (x : Times). x.tried) is, fresh.tried)
            ];
            bound = λ l e within.
                all_carried rows merge sound.ordered set.set.in_range times nothing one_each (λ x r. (x.tried ≤ now) × (x.changed ≤ now)) e (merged_row rows merge)
                (λ k inside. marks.bound k e inside) (omega (arith, fresh.tried), omega (arith, fresh.changed)) l within;
          }

      pub marks_carried : AreTouched merge now rows times → AreTriedUpTo now rows times → AreTriedUpTo now new (carried_times p)
      marks_carried touched marks = subst (λ n. AreTriedUpTo now new (carried_times n)) (sym place) (marks_after touched marks)

      -- the merged row has the route of the first member
      pub latest_carried : (routes latest : List ℕ) → AreNoLater routes latest rows times → ((d : Row) → get_or latest (place_of_route routes (get_or rows (get_or merge 0 0) d).route.bits) 0 ≡ now) → AreNoLater routes latest new (carried_times p)
      latest_carried routes latest old own =
          let time_of : Row → ℕ = λ r. get_or latest (place_of_route routes r.route.bits) 0 in
          let merged_is : (d : Row) → time_of (merged_row rows merge) ≡ now =
          λ d. ap (λ (r : Route). get_or latest (place_of_route routes r.bits) 0) (route_is rows merge d set.set.in_range (omega (arith, set.two))) ∙ own d in
          subst (λ n. AreNoLater routes latest new (carried_times n)) (sym place) (λ l d e within.
          all_carried rows merge sound.ordered set.set.in_range times nothing one_each (λ x r. x.changed ≤ time_of r) e d (λ k inside. old k d e inside)
          (omega (arith, fresh.changed, merged_is d)) l within)

-- ---- rivals at places

-- a row of which no rival is at one of the places loses none
pub none_lost : (rows : List Row) (serials places : List ℕ) (s : ℕ) (list : List Rival) → All (λ r. r < length rows) places → AreRivalsAt rows serials s list
    → ((n : ℕ) (e : Rival) → n < length list → is_at_one serials places (get_or list n e).serial ≡ false) → LosesNone rows places s
none_lost rows serials places s list in_range rivals none r d found behind = by_case (rivals.all r behind (All-has (λ x. x < length rows) places r in_range found))
  where
    by_case : (MeetsNone rows r s) ⊎ (HasSerial list (get_or serials r 0)) → Misses (get_or rows r d).block (get_or rows s d)
    by_case (inl missed) = missed d
    by_case (inr has) =
        let e : Rival = record { serial = 0; general = 0; bits = 0 } in
        let it = serial_at list (get_or serials r 0) has in
        absurd (true≢false (sym (at_one_of serials places r found) ∙ ap (is_at_one serials places) (sym (it.2 e)) ∙ none it.0 e it.1))
