use Rattle.net_tables.proofs.Common.{length-set, subst, sym, ◌<◌, ◌∙◌}
use Rattle.net_tables.proofs.{Telling.ends_more, Telling.off_kept, Trees.core_in, Trees.target_in, Trees.target_not_off}
use Rattle.net_tables.proofs.marks.set_targets.Goals as goal

pub index-place-requires : goal.index-place-requires
index-place-requires c = target_in _ _ c.args.plan.routed _ c.as_slice-target-items.ensures c.loop-target.target-index _ c.loop-target-test.true

pub out_of-requires : goal.out_of-requires
out_of-requires c = core_in _ _ c.args.plan.routed _ c.as_slice-target-items.ensures c.loop-target.target-index _ c.loop-target-test.true

pub loop-target-preserved : goal.loop-target-preserved
loop-target-preserved c =
    let inside = target_in _ _ c.args.plan.routed _ c.as_slice-target-items.ensures c.loop-target.target-index _ c.loop-target-test.true in
    let on = target_not_off _ _ c.args.plan.routed _ c.as_slice-target-items.ensures c.loop-target.target-index _ c.loop-target-test.true in (
      length-set _ _ _ ∙ c.loop-target.invariant.0,
      λ told. ends_more c.args.plan.machine.now c.args.plan.net.now.tree.edges c.as_slice-target-items.result.now c.args.plan.net.now.targets c.loop-target.target-index _ c.index-place.result
          c.loop-target.routes c.index-routes-place.result c.with.result c.as_slice-target-items.ensures c.loop-target-test.true inside c.index-place.ensures.value
          (subst (λ n. c.index-place.result < n) (sym c.loop-target.invariant.0) c.index-place.ensures.below)
          c.index-routes-place.is (rw c.out_of.ensures at c.with.ensures) (c.loop-target.invariant.1 told),
      λ off. off_kept c.args.plan.machine.now c.args.plan.net.now _ c.index-place.result c.with.result c.loop-target.routes inside on c.index-place.ensures.value (c.loop-target.invariant.2 off),
    )
