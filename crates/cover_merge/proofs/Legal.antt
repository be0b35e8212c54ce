-- On a sound table both checks are true exactly where the table after the merge is sound.

use Rattle.cover_merge.proofs.Common.{Alias, All, Block, HoldsItsAliases, Intersects, Intersects-sym, Intersects-wider, IsLegal, IsMergeSet, IsSound, LiesIn, LiesIn-merge, LiesIn-trans, List, Misses}
use Rattle.cover_merge.proofs.Common.{PassesDownCheck, PassesUpCheck, Row, ap, arith, cases_order, false, generality, get_or, get_or_default, has_row, inl, inr, insert_place, length, map, merge_of}
use Rattle.cover_merge.proofs.Common.{merge_rows, merged_block, merged_row, rows_at, subst, subst₂, sym, true, true≢false, ℕ, ◌-◌, ◌<◌, ◌∙◌, ◌≡◌, ◌≤◌}
use Rattle.cover_merge.proofs.KeptLemmasMoved.{all_after, merged_at, merged_get, moved, moved_before, moved_behind, moved_get, none_behind, pairs_after}
use Rattle.cover_merge.proofs.{ApplyLemmas.block_is, ApplyLemmas.merge_rows-block_of, Positions.All-has, Positions.rows_at-from, Positions.rows_at-has, Positions.place_for-le}
use Rattle.cover_merge.proofs.{Positions.place_for-below, Positions.place_for-from, Lists.All-from_map, Lists.All-flat_map, Lists.All-from_flat_map}

-- a block misses a merge where it misses all its members
pub Misses-merge : (b : Block) (rows : List Row) → All (Misses b) rows → Misses b (merge_rows rows)
Misses-merge b rows all = subst (All (λ (a : Alias). Intersects b a.block → ⊥)) (sym (grind arith)) (All-flat_map (λ (a : Alias). Intersects b a.block → ⊥) (λ (x : Row). x.aliases) rows all)

pub Misses-members : (b : Block) (rows : List Row) → Misses b (merge_rows rows) → All (Misses b) rows
Misses-members b rows misses = All-from_flat_map (λ (a : Alias). Intersects b a.block → ⊥) (λ (x : Row). x.aliases) rows (subst (All (λ (a : Alias). Intersects b a.block → ⊥)) (grind arith) misses)

-- what a block misses, a narrower one misses
pub narrower_misses : (b x : Block) (r : Row) → LiesIn x b → Misses b r → Misses x r
narrower_misses b x r lies misses k d within meets = grind (arith, get_or, Intersects-sym, Intersects-wider)

-- each member lies in the merge
pub member_lies : (rows : List Row) (places : List ℕ) → IsMergeSet rows places → (b : Block) → b ≡ merged_block rows places → (s : ℕ) (d : Row) → has_row places s ≡ true → LiesIn (get_or rows s d).block b
member_lies rows places merge b is = rows_at-has (λ (r : Row). LiesIn r.block b) rows places merge.set.in_range
    (subst (λ x. All (λ (r : Row). LiesIn r.block x) (rows_at rows places)) (sym is) (All-from_map (λ x. LiesIn x (merged_block rows places)) (λ (x : Row). x.block) (rows_at rows places) (LiesIn-merge (map (λ (x : Row). x.block) (rows_at rows places)))))

-- a merge holds its aliases where its members do
pub HoldsItsAliases-merge : (rows : List Row) → All HoldsItsAliases rows → HoldsItsAliases (merge_rows rows)
HoldsItsAliases-merge rows all =
    let merge = merge_of (map (λ (x : Row). x.block) rows) in
    let members : All (λ (x : Row). LiesIn x.block merge) rows = All-from_map (λ (b : Block). LiesIn b merge) (λ (x : Row). x.block) rows (LiesIn-merge (map (λ (x : Row). x.block) rows)) in
    let each : All (λ (x : Row). All (λ (a : Alias). LiesIn a.block merge) x.aliases) rows = λ k d within j e inside. LiesIn-trans (get_or (get_or rows k d).aliases j e).block (get_or rows k d).block merge (all k d within j e inside) (members k d within) in
    subst (λ (b : Block). All (λ (a : Alias). LiesIn a.block b) (merge_rows rows).aliases) (sym (merge_rows-block_of rows))
    (subst (All (λ (a : Alias). LiesIn a.block merge)) (sym (grind arith)) (All-flat_map (λ (a : Alias). LiesIn a.block merge) (λ (x : Row). x.aliases) rows each))

-- the order of generality
abbrev pub IsBefore : Row → Row → Type 0
IsBefore r s = generality r.block ≤ generality s.block

-- the block of the first row meets no alias of the second
abbrev pub Clears : Row → Row → Type 0
Clears r s = Misses r.block s

module _ (rows : List Row) (places : List ℕ) (sound : IsSound rows) (in_range : All (λ s. s < length rows) places) where
  here : (merged_row rows places).block ≡ merged_block rows places
  here = block_is rows places sound.ordered in_range

  -- a row before the place misses all members
  front_clear : PassesUpCheck rows places → (k : ℕ) (d : Row) → has_row places k ≡ false → k < insert_place rows places → Clears (get_or rows k d) (merged_row rows places)
  front_clear up k d out before = Misses-merge (get_or rows k d).block (rows_at rows places) (rows_at-from (Misses (get_or rows k d).block) rows places (λ s e found.
      let inside : s < length rows = All-has (λ x. x < length rows) places s in_range found in
      subst (Misses (get_or rows k d).block) (get_or_default rows s d e inside) (elim (cases_order k s) [
        | inl same ↦ absurd (true≢false (sym found ∙ ap (has_row places) (sym same) ∙ out))
        | inr (inl earlier) ↦ sound.unmet k s d earlier inside
        | inr (inr later) ↦ up s found k later before d out
      ])))

  pub legal_from_checks : PassesUpCheck rows places → PassesDownCheck rows places → IsLegal rows places
  legal_from_checks up down =
      let g = generality (merged_block rows places) in record {
        ordered = pairs_after rows places sound.ordered in_range IsBefore sound.ordered
            (λ k d out before. subst (λ (b : Block). generality (get_or rows k d).block ≤ generality b) (sym here) (place_for-below rows g sound.ordered k d before))
            (λ k d from inside. subst (λ (b : Block). generality b ≤ generality (get_or rows k d).block) (sym here) (omega (arith, place_for-from rows g sound.ordered k d inside from)));
        inside = all_after rows places sound.ordered in_range HoldsItsAliases
            (HoldsItsAliases-merge (rows_at rows places)
            (rows_at-from HoldsItsAliases rows places (λ s d found. sound.inside s d (All-has (λ x. x < length rows) places s in_range found)))) sound.inside;
        unmet = pairs_after rows places sound.ordered in_range Clears sound.unmet (front_clear up)
            (λ k d from inside. subst (λ (b : Block). Misses b (get_or rows k d)) (sym here) (down k d from inside));
      }

  module _ (legal : IsLegal rows places) where
    pub up_from_legal : PassesUpCheck rows places
    up_from_legal s found r behind before d out =
        let at = moved_get rows places sound.ordered in_range r d (omega (arith, before, place_for-le rows (generality (merged_block rows places)))) out in
        let last = merged_get rows places sound.ordered in_range d in
        rows_at-has (Misses (get_or rows r d).block) rows places in_range (Misses-members (get_or rows r d).block (rows_at rows places)
        (subst₂ Clears at.1 last.1 (legal.unmet (moved rows places r) (merged_at rows places) d (moved_before rows places sound.ordered in_range r out before) last.0))) s d found

    pub down_from_legal : PassesDownCheck rows places
    down_from_legal r d from inside =
        let at = moved_get rows places sound.ordered in_range r d inside (none_behind rows places sound.ordered in_range r from) in
        let first = merged_get rows places sound.ordered in_range d in
        subst (λ (b : Block). Misses b (get_or rows r d)) here
        (subst₂ Clears first.1 at.1 (legal.unmet (merged_at rows places) (moved rows places r) d (moved_behind rows places sound.ordered in_range r from) at.0))
