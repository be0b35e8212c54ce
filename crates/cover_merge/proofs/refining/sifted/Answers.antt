-- Where none fails, the set stays.
use Rattle.cover_merge.proofs.Common.{LeadsWithin, PassesUp, ap, has_row, merged_block, place_for, subst, true, ℕ, ◌∙◌, ◌≡◌}
use Rattle.cover_merge.proofs.SiftLemmas.{all_pass}
use Rattle.cover_merge.proofs.refining.sifted.Goals as goal

pub returns-then-all_pass-clause-sifted : goal.returns-then-all_pass-clause-sifted
returns-then-all_pass-clause-sifted c =
    let rows = c.args.table.rows.now in
    let xs = c.args.set.now.items in
    let g = c.generality.result in
    let is : c.merged_block-merged.result ≡ merged_block rows xs = c.merged_block-merged.ensures ∙ ap (merged_block rows) c.deref.ensures.value in
    let pass = subst (λ l. (s : ℕ) → has_row l s ≡ true → PassesUp rows l s (place_for rows g)) c.deref-2.ensures.value (c.all_pass.ensures c.if-all_pass.true) in record {
      one_route = c.requires.set;
      steps = λ outer low. LeadsWithin.stands xs;
      found_is = (c.requires.two, is, all_pass rows xs c.requires.set c.args.table.sound.ordered c.merged_block-merged.result is g c.generality.ensures.value pass);
    }
