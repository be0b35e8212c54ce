-- What is kept of a route is true in the table after a merge that leaves it alone.
use Rattle.cover_merge.proofs.Common.{All, All-filter, All-head, All-map, All-nil, All-tail, Block, Bool, HoldsItsAliases, Intersects, Intersects-sym, Intersects-wider, IsDownStep, IsFirstMetFrom}
use Rattle.cover_merge.proofs.Common.{IsKept, IsLastFailing, IsLegal, IsMergeSet, IsNarrowed, IsNoRival, IsSound, IsUpStep, LiesIn, LiesIn-from_wants, LiesIn-trans, List, LosesNone, Misses}
use Rattle.cover_merge.proofs.Common.{PassesDown, PassesDownCheck, PassesUp, PassesUpCheck, Refines, RefinesWithin, Route, Row, Some, Wants, [], after, ap, arith, cases_Bool, cases_lt, cases_order}
use Rattle.cover_merge.proofs.Common.{cond, cons_option, eq-eqb, false, false_from_ne_true, filter, generality, generality-mono, get_or, get_or-map, get_or_default, get_or_from_slice_get, has_row}
use Rattle.cover_merge.proofs.Common.{inl, inr, insert_place, keeps, kept_by, kept_count, length, length-map, map, merge_of, merge_of-is_merge, merged_block, merged_row, ne_eqb, not, place_for}
use Rattle.cover_merge.proofs.Common.{places_of, refl, rows_at, rules, slice_get, slice_get-get_or, slice_get_within, subst, suc, sym, true, zero, ℕ, ◌<◌, ◌==◌, ◌||◌, ◌∙◌, ◌∷◌, ◌≡◌, ◌≢◌, ◌≤◌, ◌⊎◌}
use Rattle.cover_merge.proofs.{ChooseLemmas.are_places, KeptLemmasMoved.moved_from, KeptLemmasMoved.moved, KeptLemmasMoved.moved_less, KeptLemmasMoved.moved_get, KeptLemmasMoved.moved_onto}
use Rattle.cover_merge.proofs.{KeptLemmasMoved.moved_places, Positions.has-at, Positions.has-place, Positions.All-has, Positions.rows_at-from, Positions.rows_at-has, Positions.rows_at-length}
use Rattle.cover_merge.proofs.{Positions.some_blocks, Positions.place_for-le, Positions.place_for-below, Positions.place_for-above, Positions.member_le, Lists.All-from_map, Lists.cond_of}
use Rattle.cover_merge.proofs.{Legal.HoldsItsAliases-merge, Legal.narrower_misses, Legal.member_lies, ApplyLemmas.block_is, Determined.met_not_missed, Determined.one_refined}

-- ---- lists of places

module _ (to : ℕ → ℕ) where
  -- what a test lets pass of the images are the images of what passes
  filter_to : (f h : ℕ → Bool) (places : List ℕ) → All (λ s. f (to s) ≡ h s) places → filter f (map to places) ≡ map to (filter h places)
  filter_to f h [] same = refl
  filter_to f h (s ∷ places) same =
      ap (λ b. cond b (to s ∷ filter f (map to places)) (filter f (map to places))) (All-head (λ x. f (to x) ≡ h x) s places same)
      ∙ ap (λ l. cond (h s) (to s ∷ l) l) (filter_to f h places (All-tail (λ x. f (to x) ≡ h x) s places same))
      ∙ cond_of (map to) (h s) (s ∷ filter h places) (filter h places)

  -- an image that is found is that of a place of the set
  has_from : (places : List ℕ) (l : ℕ) → has_row (map to places) l ≡ true → (s : ℕ) × (has_row places s ≡ true) × (to s ≡ l)
  has_from places l found =
      let at = has-place (map to places) l found in
      let inside : at.0 < length places = omega (arith, at.1, length-map places to) in
      (get_or places at.0 0, has-at places at.0 inside, sym (get_or-map to places at.0 0 0 inside) ∙ at.2)

-- ---- rows that a merge takes in, and others

-- a row that lies in a block with all its aliases, and is no more general
record IsUnder (b : Block) (row : Row) : Type 0 where
  lies : LiesIn row.block b
  holds : HoldsItsAliases row
  low : generality row.block ≤ generality b

under_misses : (b : Block) (row other : Row) → IsUnder b row → Misses b other → Misses row.block other
under_misses b row other under misses = narrower_misses b row.block other under.lies misses

-- a row outside the merge
pub record IsOut (rows : List Row) (merge : List ℕ) (s : ℕ) : Type 0 where
  pub inside : s < length rows
  pub out : has_row merge s ≡ false

-- and whose aliases the merge misses
record IsLeft (rows : List Row) (merge : List ℕ) (s : ℕ) : Type 0 where
  at : IsOut rows merge s
  clear : (d : Row) → Misses (merged_block rows merge) (get_or rows s d)

module _ (rows : List Row) (merge : List ℕ) (sound : IsSound rows) (set : IsMergeSet rows merge) (legal : IsLegal rows merge) where
  abbrev new : List Row
  new = after rows merge

  abbrev to : ℕ → ℕ
  to = moved rows merge

  member_under : (k : ℕ) (d : Row) → k < length rows → has_row merge k ≡ true → IsUnder (merged_block rows merge) (get_or rows k d)
  member_under k d within found = grind (arith, member_lies rows merge set (merged_block rows merge) refl k d found, member_le rows merge set.set.in_range k d found)

  merged_under : IsUnder (merged_block rows merge) (merged_row rows merge)
  merged_under =
      let same = block_is rows merge sound.ordered set.set.in_range in record {
        lies = subst (λ b. LiesIn b (merged_block rows merge)) (sym same) (λ k small inside. inside);
        holds = HoldsItsAliases-merge (rows_at rows merge) (rows_at-from HoldsItsAliases rows merge (λ s d found. sound.inside s d (All-has (λ x. x < length rows) merge s set.set.in_range found)));
        low = omega (arith, ap generality same);
      }

  -- ---- places

  pub to_less : (j k : ℕ) → has_row merge j ≡ false → j < k → to j < to k
  to_less j k out less = moved_less rows merge sound.ordered set.set.in_range j k out less

  pub from_less : (j k : ℕ) → has_row merge k ≡ false → to j < to k → j < k
  from_less j k out less = moved_from rows merge sound.ordered set.set.in_range j k out less

  pub same_test : (s k : ℕ) → has_row merge s ≡ false → has_row merge k ≡ false → (to s == to k) ≡ (s == k)
  same_test s k out gone = grind (arith, cases_order s k, eq-eqb, ne_eqb, to_less)

  pub get_to : (s : ℕ) (d : Row) → s < length rows → has_row merge s ≡ false → get_or new (to s) d ≡ get_or rows s d
  get_to s d inside out = (moved_get rows merge sound.ordered set.set.in_range s d inside out).1

  pub to_inside : (s : ℕ) → s < length rows → has_row merge s ≡ false → to s < length new
  to_inside s inside out = (moved_get rows merge sound.ordered set.set.in_range s (merged_row rows merge) inside out).0

  pub slice_to : (s : ℕ) → s < length rows → has_row merge s ≡ false → slice_get new (to s) ≡ slice_get rows s
  slice_to s inside out =
      let d = merged_row rows merge in
      slice_get-get_or new (to s) d (to_inside s inside out) ∙ ap Some (get_to s d inside out) ∙ sym (slice_get-get_or rows s d inside)

  -- a row stands before an insertion place where it stood before it
  pub before_to : (g k : ℕ) → k < length rows → has_row merge k ≡ false → k < place_for rows g → to k < place_for new g
  before_to g k inside out before =
      let d = merged_row rows merge in
      place_for-above new g legal.ordered (to k) d (to_inside k inside out) (subst (λ (r : Row). generality r.block ≤ g) (sym (get_to k d inside out)) (place_for-below rows g sound.ordered k d before))

  pub before_from : (g k : ℕ) → k < length rows → has_row merge k ≡ false → to k < place_for new g → k < place_for rows g
  before_from g k inside out before =
      let d = merged_row rows merge in
      place_for-above rows g sound.ordered k d inside (subst (λ (r : Row). generality r.block ≤ g) (get_to k d inside out) (place_for-below new g legal.ordered (to k) d before))

  -- ---- sets of places

  pub has_to : (places : List ℕ) (k : ℕ) → All (IsOut rows merge) places → has_row merge k ≡ false → has_row (map to places) (to k) ≡ has_row places k
  has_to [] k outs gone = refl
  has_to (s ∷ places) k outs gone =
      ap (λ b. b || has_row (map to places) (to k)) (same_test s k (All-head (IsOut rows merge) s places outs).out gone)
      ∙ ap (λ b. (s == k) || b) (has_to places k (All-tail (IsOut rows merge) s places outs) gone)

  rows_to : (places : List ℕ) → All (IsOut rows merge) places → rows_at new (map to places) ≡ rows_at rows places
  rows_to [] outs = refl
  rows_to (s ∷ places) outs =
      let here = All-head (IsOut rows merge) s places outs in
      ap (λ o. cons_option o (rows_at new (map to places))) (slice_to s here.inside here.out)
      ∙ ap (cons_option (slice_get rows s)) (rows_to places (All-tail (IsOut rows merge) s places outs))

  -- of rows outside the merge
  module _ (places : List ℕ) (outs : All (IsOut rows merge) places) where
    pub block_to : merged_block new (map to places) ≡ merged_block rows places
    block_to = ap (λ l. merge_of (map (λ (x : Row). x.block) l)) (rows_to places outs)

    -- a row that loses none passed where it passes
    pub up_from : (g s : ℕ) → IsOut rows merge s → LosesNone rows merge s → PassesUp new (map to places) (to s) (place_for new g) → PassesUp rows places s (place_for rows g)
    up_from g s here loses up k behind before d outside =
        let inside : k < length rows = omega (arith, before, place_for-le rows g) in
        elim (cases_Bool (has_row merge k)) [
          | inl found ↦ loses k d found behind
          | inr gone ↦
              subst (Misses (get_or rows k d).block) (get_to s d here.inside here.out)
              (subst (λ (r : Row). Misses r.block (get_or new (to s) d)) (get_to k d inside gone)
              (up (to k) (to_less s k here.out behind) (before_to g k inside gone before) d (has_to places k outs gone ∙ outside)))
        ]

  -- ---- the up-check

  module _ (places : List ℕ) (left : All (IsLeft rows merge) places) where
    left_at : (s : ℕ) → has_row places s ≡ true → IsLeft rows merge s
    left_at s found = All-has (IsLeft rows merge) places s left found

    outs : All (IsOut rows merge) places
    outs k d within = (left k d within).at

    left_loses : (s : ℕ) → IsLeft rows merge s → LosesNone rows merge s
    left_loses s stays r d found behind =
        under_misses (merged_block rows merge) (get_or rows r d) (get_or rows s d) (member_under r d (All-has (λ x. x < length rows) merge r set.set.in_range found) found) (stays.clear d)

    up_to : (g s : ℕ) → IsLeft rows merge s → PassesUp rows places s (place_for rows g) → PassesUp new (map to places) (to s) (place_for new g)
    up_to g s stays up l behind before d out =
        subst (Misses (get_or new l d).block) (sym (get_to s d stays.at.inside stays.at.out))
        (elim (moved_onto rows merge sound.ordered set.set.in_range l (omega (arith, before, place_for-le new g))) [
          | inl (k, inside, gone, at) ↦
              subst (λ (r : Row). Misses r.block (get_or rows s d)) (sym (get_to k d inside gone) ∙ ap (λ n. get_or new n d) at)
              (up k (from_less s k gone (subst (λ n. to s < n) (sym at) behind)) (before_from g k inside gone (subst (λ n. n < place_for new g) (sym at) before)) d
              (sym (has_to places k outs gone) ∙ ap (has_row (map to places)) at ∙ out))
          | inr is ↦ subst (λ (r : Row). Misses r.block (get_or rows s d)) (sym (is d)) (under_misses (merged_block rows merge) (merged_row rows merge) (get_or rows s d) merged_under (stays.clear d))
        ])

    up_check_to : PassesUpCheck rows places → PassesUpCheck new (map to places)
    up_check_to up l found =
        let at = has_from to places l found in
        subst (λ n. PassesUp new (map to places) n (insert_place new (map to places))) at.2
        (subst (λ b. PassesUp new (map to places) (to at.0) (place_for new (generality b))) (sym (block_to places outs))
        (up_to (generality (merged_block rows places)) at.0 (left_at at.0 at.1) (up at.0 at.1)))

    last_to : (g s : ℕ) → IsLastFailing rows places (place_for rows g) s → IsLastFailing new (map to places) (place_for new g) (to s)
    last_to g s last = record {
      member = has_to places s outs (left_at s last.member).at.out ∙ last.member;
      failing = λ passes. last.failing (up_from places outs g s (left_at s last.member).at (left_loses s (left_at s last.member)) passes);
      behind = λ l found less.
          let at = has_from to places l found in
          subst (λ n. PassesUp new (map to places) n (place_for new g)) at.2
          (up_to g at.0 (left_at at.0 at.1) (last.behind at.0 at.1 (from_less s at.0 (left_at at.0 at.1).at.out (subst (λ n. to s < n) (sym at.2) less))));
    }

    up_step_to : (next : List ℕ) → IsUpStep rows places next → IsUpStep new (map to places) (map to next)
    up_step_to next step = record {
      place = to step.place;
      last = search (rules, block_to, outs, last_to);
      result = ap (map to) step.result
          ∙ sym (filter_to to (λ t. not (t == to step.place)) (λ t. not (t == step.place)) places
          (λ k d within. ap not (same_test (get_or places k d) step.place (left k d within).at.out (left_at step.place step.last.member).at.out)));
    }

    -- ---- the down-check

    module _ (b : Block) (apart : (row : Row) → IsUnder (merged_block rows merge) row → (Misses b row) ⊎ (generality row.block ≤ generality b)) where
      abbrev old_place : ℕ
      old_place = place_for rows (generality b)

      abbrev new_place : ℕ
      new_place = place_for new (generality b)

      row_behind : (l : ℕ) (d : Row) → new_place ≤ l → l < length new → ((k : ℕ) → k < length rows → has_row merge k ≡ false → to k ≡ l → old_place ≤ k → Misses b (get_or rows k d)) → Misses b (get_or new l d)
      row_behind l d from within each = elim (moved_onto rows merge sound.ordered set.set.in_range l within) [
        | inl (k, inside, gone, at) ↦
            subst (Misses b) (sym (get_to k d inside gone) ∙ ap (λ n. get_or new n d) at) (each k inside gone at (elim (cases_lt k old_place) [
              | inl low ↦ absurd (omega (arith, before_to (generality b) k inside gone low, at, from))
              | inr high ↦ high
            ]))
        | inr is ↦ elim (apart (merged_row rows merge) merged_under) [
          | inl misses ↦ subst (Misses b) (sym (is d)) misses
          | inr low ↦ absurd (omega (arith, from, place_for-above new (generality b) legal.ordered l d within (subst (λ (r : Row). generality r.block ≤ generality b) (sym (is d)) low)))
        ]
      ]

      -- the first row that has an alias which the block meets is no member
      first_out : (met : Block) (first : IsFirstMetFrom rows b old_place met) → first.at < length rows → (has_row merge first.at ≡ true) ⊎ (has_row merge first.at ≡ false) → has_row merge first.at ≡ false
      first_out met first inside (inr out) = out
      first_out met first inside (inl found) = absurd (elim (apart (get_or rows first.at first.row) (member_under first.at first.row inside found)) [
        | inl misses ↦ met_not_missed b first.row met first.first (subst (Misses b) (get_or_from_slice_get rows first.at first.row first.row first.found) misses)
        | inr low ↦ omega (arith, first.from, place_for-above rows (generality b) sound.ordered first.at first.row inside low)
      ])

      met_to : (met : Block) → IsFirstMetFrom rows b old_place met → IsFirstMetFrom new b new_place met
      met_to met first =
          let inside : first.at < length rows = slice_get_within rows first.at first.row first.found in
          let out = first_out met first inside (cases_Bool (has_row merge first.at)) in
          record {
            at = to first.at;
            row = first.row;
            from = elim (cases_lt (to first.at) new_place) [
              | inl low ↦ absurd (omega (arith, first.from, before_from (generality b) first.at inside out low))
              | inr high ↦ high
            ];
            found = slice_to first.at inside out ∙ first.found;
            first = first.first;
            before = λ l d from less. row_behind l d from (omega (arith, less, to_inside first.at inside out))
                (λ k within gone at le. first.before k d le (from_less k first.at out (omega (arith, at, less))));
          }

    -- ---- the best bit

    count_to : (joined met : Block) (i : ℕ) → kept_count new (map to places) joined met i ≡ kept_count rows places joined met i
    count_to joined met i = grind (arith, length-map (kept_by rows met i places) to, filter_to, slice_to, get_or)

    module _ (outer : Block) (low : ℕ) (apart : (Intersects (merged_block rows merge) outer → ⊥) ⊎ (generality (merged_block rows merge) ≤ low)) (lies : LiesIn (merged_block rows places) outer) (high : low ≤ generality (merged_block rows places)) where
      apart_here : (row : Row) → IsUnder (merged_block rows merge) row → (Misses (merged_block rows places) row) ⊎ (generality row.block ≤ generality (merged_block rows places))
      apart_here = grind (arith, get_or, Intersects-wider, Intersects-sym, LiesIn-trans)

      down_check_to : PassesDownCheck rows places → PassesDownCheck new (map to places)
      down_check_to down = subst (λ b. PassesDown new b (place_for new (generality b))) (sym (block_to places outs))
          (λ l d from within. row_behind (merged_block rows places) apart_here l d from within (λ k inside gone at le. down k d le inside))

      down_step_to : (next : List ℕ) → IsDownStep rows places next → IsDownStep new (map to places) (map to next)
      down_step_to next step = record {
        up = up_check_to step.up;
        met = step.met;
        first = subst (λ b. IsFirstMetFrom new b (place_for new (generality b)) step.met) (sym (block_to places outs)) (met_to (merged_block rows places) apart_here step.met step.first);
        narrowed = subst (λ b. IsNarrowed new (map to places) b step.met (map to next)) (sym (block_to places outs)) (grind (arith, count_to, filter_to, slice_to, get_or));
      }

  -- ---- the refined set

  module _ (outer : Block) (low : ℕ) (apart : (Intersects (merged_block rows merge) outer → ⊥) ⊎ (generality (merged_block rows merge) ≤ low)) where
    narrowed_left : (places : List ℕ) (joined met : Block) (next : List ℕ) → All (IsLeft rows merge) places → IsNarrowed rows places joined met next → All (IsLeft rows merge) next
    narrowed_left places joined met next left (inl (i, below, best, is)) = subst (All (IsLeft rows merge)) (sym is) (All-filter (keeps rows met i) (IsLeft rows merge) places left)
    narrowed_left places joined met next left (inr none) = subst (All (IsLeft rows merge)) (sym none.1) (All-nil (IsLeft rows merge))

    refines_to : (places answer : List ℕ) → All (IsLeft rows merge) places → RefinesWithin rows outer low places answer → RefinesWithin new outer low (map to places) (map to answer)
    refines_to places answer left (RefinesWithin.ends_empty p few) = RefinesWithin.ends_empty (map to p) (omega (arith, few, length-map p to))
    refines_to places answer left (RefinesWithin.ends_legal p two up down lies high) =
        RefinesWithin.ends_legal (map to p) (omega (arith, two, length-map p to)) (up_check_to p left up) (down_check_to p left outer low apart lies high down)
        (subst (λ b. LiesIn b outer) (sym (block_to p (outs p left))) lies) (omega (arith, high, ap generality (block_to p (outs p left))))
    refines_to places answer left (RefinesWithin.goes_up p next a two step rest) =
        RefinesWithin.goes_up (map to p) (map to next) (map to a) (omega (arith, two, length-map p to)) (up_step_to p left next step)
        (refines_to next a (subst (All (IsLeft rows merge)) (sym step.result) (All-filter (λ t. not (t == step.place)) (IsLeft rows merge) p left)) rest)
    refines_to places answer left (RefinesWithin.goes_down p next a two step lies high rest) =
        RefinesWithin.goes_down (map to p) (map to next) (map to a) (omega (arith, two, length-map p to)) (down_step_to p left outer low apart lies high next step)
        (subst (λ b. LiesIn b outer) (sym (block_to p (outs p left))) lies) (omega (arith, high, ap generality (block_to p (outs p left))))
        (refines_to next a (narrowed_left p (merged_block rows p) step.met next left step.narrowed) rest)

-- ---- what is kept

-- A merge leaves alone what is kept of a route: it is of another route, its block meets no alias of a row of the route,
-- and meets no block that was down-checked or is no more general than each.
pub record IsLeftBy (rows : List Row) (merge : List ℕ) (bits : ℕ) (outer : Block) (low : ℕ) : Type 0 where
  pub other : (s : ℕ) (d : Row) → has_row merge s ≡ true → (get_or rows s d).route.bits ≢ bits
  pub misses : (s : ℕ) (d : Row) → s < length rows → (get_or rows s d).route.bits ≡ bits → Misses (merged_block rows merge) (get_or rows s d)
  pub apart : (Intersects (merged_block rows merge) outer → ⊥) ⊎ (generality (merged_block rows merge) ≤ low)

-- What is kept of a route is true in the table after a merge that leaves it alone.
pub kept_after : (rows : List Row) (merge : List ℕ) (bits size : ℕ) (outer : Block) (low : ℕ) → IsSound rows → IsMergeSet rows merge → IsLegal rows merge → IsLeftBy rows merge bits outer low → IsKept rows bits size outer low → IsKept (after rows merge) bits size outer low
kept_after rows merge bits size outer low sound set legal leaves keeps_it = record {
  set = map (moved rows merge) keeps_it.set;
  refined = subst (λ l. RefinesWithin (after rows merge) outer low l (map (moved rows merge) keeps_it.set))
      (sym (moved_places rows merge sound.ordered set.set.in_range (omega (arith, set.two)) bits leaves.other))
      (refines_to rows merge sound set legal outer low leaves.apart (places_of bits 0 rows) keeps_it.set left keeps_it.refined);
  size_is = length-map keeps_it.set (moved rows merge) ∙ keeps_it.size_is;
}
  where
    left : All (IsLeft rows merge) (places_of bits 0 rows)
    left k d within =
        let s = get_or (places_of bits 0 rows) k d in
        let has = (are_places bits rows).each k d within in record {
          at = record { inside = has.0; out = false_from_ne_true (has_row merge s) (λ found. leaves.other s (merged_row rows merge) found (has.1 (merged_row rows merge))) };
          clear = λ e. leaves.misses s e has.0 (has.1 e);
        }

module _ (rows : List Row) (outer : Block) (low : ℕ) where
  -- A refinement within bounds is a refinement.
  pub forgets : (places answer : List ℕ) → RefinesWithin rows outer low places answer → Refines rows places answer
  forgets places answer (RefinesWithin.ends_empty p few) = Refines.ends_empty p few
  forgets places answer (RefinesWithin.ends_legal p two up down lies high) = Refines.ends_legal p two up down
  forgets places answer (RefinesWithin.goes_up p next a two step rest) = Refines.goes_up p next a two step (forgets next a rest)
  forgets places answer (RefinesWithin.goes_down p next a two step lies high rest) = Refines.goes_down p next a two step (forgets next a rest)

  module _ (bits size : ℕ) (is_kept : IsKept rows bits size outer low) where
    -- The refined set of the route's rows has as many places as was kept.
    pub size_of_kept : (set : List ℕ) → Refines rows (places_of bits 0 rows) set → length set ≡ size
    size_of_kept set refined = grind (arith, one_refined, forgets)

    -- A route whose kept number loses to another route's set is no rival of it.
    pub no_rival_kept : (other n : ℕ) → size ≤ n → (0 < n → bits < other → size < n) → IsNoRival rows bits other n
    no_rival_kept other n no_larger smaller = grind (arith, forgets (places_of bits 0 rows) is_kept.set is_kept.refined)

-- A merge is of another route where its first row is.
pub merge_other : (rows : List Row) (merge : List ℕ) (first bits : ℕ) (z : Row) → IsMergeSet rows merge → (get_or rows (get_or merge 0 0) z).route.bits ≡ first → first ≢ bits
    → (s : ℕ) (d : Row) → has_row merge s ≡ true → (get_or rows s d).route.bits ≢ bits
merge_other rows merge first bits z set is differ s d found same = differ (sym (by_place (has-place merge s found)) ∙ same)
  where
    first_is : (e : Row) → (get_or rows (get_or merge 0 0) e).route.bits ≡ first
    first_is e = ap (λ (x : Row). x.route.bits) (get_or_default rows (get_or merge 0 0) e z (set.set.in_range 0 0 (omega (arith, set.two)))) ∙ is

    by_place : (i : ℕ) × (i < length merge) × (get_or merge i 0 ≡ s) → (get_or rows s d).route.bits ≡ first
    by_place (zero, inside, at) = subst (λ n. (get_or rows n d).route.bits ≡ first) at (first_is d)
    by_place (suc i, inside, at) = subst (λ n. (get_or rows n d).route.bits ≡ first) at (sym (ap (λ (x : Route). x.bits) (set.set.one_route 0 (suc i) 0 (omega arith) inside d)) ∙ first_is d)

-- ---- fewer places

-- The merge of some places of a set lies in that of all, and is no more general.
pub fewer_lies : (rows : List Row) (some all : List ℕ) → All (λ s. s < length rows) all → 0 < length some → All (λ s. has_row all s ≡ true) some → (LiesIn (merged_block rows some) (merged_block rows all)) × (generality (merged_block rows some) ≤ generality (merged_block rows all))
fewer_lies rows some all in_range one members =
    let few_in : All (λ s. s < length rows) some = λ k d within. All-has (λ s. s < length rows) all (get_or some k d) in_range (members k d within) in
    let many : 0 < length all = let at = has-place all (get_or some 0 0) (members 0 0 one) in omega (arith, at.1) in
    let wants : (i v : ℕ) → Wants (merged_block rows all) i v → Wants (merged_block rows some) i v = λ i v w. let each = rows_at-has (λ (r : Row). Wants r.block i v) rows all in_range
    (All-from_map (λ b. Wants b i v) (λ (x : Row). x.block) (rows_at rows all)
    ((merge_of-is_merge (map (λ (x : Row). x.block) (rows_at rows all)) (some_blocks (rows_at rows all) (omega (arith, rows_at-length rows all in_range, many))) i v).0 w)) in
    (merge_of-is_merge (map (λ (x : Row). x.block) (rows_at rows some)) (some_blocks (rows_at rows some) (omega (arith, rows_at-length rows some few_in, one))) i v).1
    (All-map (λ b. Wants b i v) (λ (x : Row). x.block) (rows_at rows some) (rows_at-from (λ (r : Row). Wants r.block i v) rows some
    (λ s d found. each s d (All-has (λ t. has_row all t ≡ true) some s members found)))) in
    (LiesIn-from_wants (merged_block rows some) (merged_block rows all) wants, generality-mono (merged_block rows some) (merged_block rows all) wants)
