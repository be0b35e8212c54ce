-- The place is the insertion place, behind all members.
use Rattle.cover_merge.proofs.Common.{All, AllPairs, ap, arith, length, merged_row, subst, sym, ◌<◌, ◌∙◌, ◌≡◌}
use Rattle.cover_merge.proofs.ApplyLemmas.{after_is, place_found, found_before}
use Rattle.cover_merge.proofs.applying.apply.Goals as goal

pub invariant_of-gaps : goal.invariant_of-gaps
invariant_of-gaps c =
    let made : c.in_ok-merged.merged ≡ merged_row c.args.table.now.rows c.args.places.now = c.in_ok-merged.ensures ∙ ap (λ l. merged_row l
    c.as_slice-members.result.now) c.as_slice.ensures ∙ ap (merged_row c.args.table.now.rows) c.as_slice-members.ensures in
    record {
      some = subst (λ l. 0 < length l) (sym c.as_slice-members.ensures) (omega (arith, c.requires.set.two));
      ascending = subst (AllPairs (λ s t. s < t)) (sym c.as_slice-members.ensures) c.requires.set.set.ascending;
      before = subst (All (λ t. t < c.place_in-place.result)) (sym c.as_slice-members.ensures)
          (found_before c.args.table.now.rows c.args.places.now c.requires.ordered c.requires.set.set.in_range c.as_slice-2.result.now c.as_slice-2.ensures c.in_ok-merged.merged made
          c.generality.result c.place_in-place.result c.generality.ensures.value c.place_in-place.ensures.value);
    }

pub returns-clause-ok : goal.returns-clause-ok
returns-clause-ok c = grind (arith, place_found, after_is)
