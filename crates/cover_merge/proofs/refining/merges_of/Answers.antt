-- One place more.
use Rattle.cover_merge.proofs.Common.{[], ap, arith, get_or, length, length-append, merged_block, subst, sym, take, ◌++◌, ◌+◌, ◌-◌, ◌<◌, ◌∙◌, ◌∷◌, ◌≡◌}
use Rattle.cover_merge.proofs.{Positions.merge_next, SiftLemmas.merges_more}
use Rattle.cover_merge.proofs.refining.merges_of.Goals as goal

pub loop-k-preserved : goal.loop-k-preserved
loop-k-preserved c =
    let rows = c.args.members.rows.now in
    let set = c.args.members.places.now in
    let old = c.loop-k.invariant in
    let n = c.merge_two-merged.result in
    let before : c.loop-k.k - 1 + 1 ≡ c.loop-k.k = omega (arith, old.some) in
    let last : c.index.result.now ≡ merged_block rows (take c.loop-k.k set) = c.index.ensures ∙ old.each (c.loop-k.k - 1) c.index.result.now (omega (arith, old.as_many, old.some)) ∙ ap (λ i. merged_block rows (take i set)) before in
    let pushed : c.push-in-loop-k.new.self.items ≡ c.loop-k.merges.items ++ n ∷ [] = c.in_ok-push-2.ensures.items in
    let now = merge_next rows set c.loop-k.k c.index-rows-set-in-loop-k.result c.index.result.now n c.args.members.inside old.some c.loop-k-test.true last c.merge_two-merged.ensures in record {
      as_many = omega (arith, ap length pushed, length-append c.loop-k.merges.items (n ∷ []), old.as_many);
      some = omega (arith, old.some);
      each = λ j d inside. subst (λ l. get_or l j d ≡ merged_block rows (take (j + 1) set)) (sym pushed) (merges_more rows set c.loop-k.merges.items c.loop-k.k n old.as_many old.each now j d (subst (λ l. j < length l) pushed inside));
    }
