-- One place more.
use Rattle.cover_merge.proofs.Common.{ap, arith, merged_block, take, take_all, ◌+◌, ◌-◌, ◌∙◌, ◌≡◌}
use Rattle.cover_merge.proofs.Positions.{merge_next}
use Rattle.cover_merge.proofs.refining.merge_from.Goals as goal

pub loop-k-init : goal.loop-k-init
loop-k-init c =
    let left = c.args.left in
    let some = c.if-first-eq0.false in
    let first : left.first - 1 + 1 ≡ left.first = omega (arith, some) in record {
      some = omega (arith, some);
      merge = c.index-merges-first.is ∙ left.known (left.first - 1) _ (omega (arith, some)) (omega (arith, some, left.many)) ∙ ap (λ n. merged_block left.rows.now (take n left.places.now)) first;
    }

pub loop-k-preserved : goal.loop-k-preserved
loop-k-preserved c = record {
  some = omega arith;
  merge = merge_next c.args.left.rows.now c.args.left.places.now c.loop-k.k _ _ _ c.args.left.inside c.loop-k.invariant.some c.loop-k-test.true c.loop-k.invariant.merge c.merge_two-merged.ensures;
}

pub returns : goal.returns
returns c = grind (arith, c.loop-k.invariant.merge, take_all)
