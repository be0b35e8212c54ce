use Rattle.net_tables.proofs.Common.{length-set, subst, sym, ◌<◌, ◌∙◌}
use Rattle.net_tables.proofs.{Telling.links_more, Telling.off_kept, Trees.edge_in, Trees.edge_not_off}
use Rattle.net_tables.proofs.marks.set_links.Goals as goal

pub index-place-requires : goal.index-place-requires
index-place-requires c = edge_in _ _ c.args.plan.routed _ c.as_slice-edge-items.ensures c.loop-edge.edge-index _ c.loop-edge-test.true

pub loop-edge-preserved : goal.loop-edge-preserved
loop-edge-preserved c =
    let inside = edge_in _ _ c.args.plan.routed _ c.as_slice-edge-items.ensures c.loop-edge.edge-index _ c.loop-edge-test.true in
    let on = edge_not_off _ _ c.args.plan.routed _ c.as_slice-edge-items.ensures c.loop-edge.edge-index _ c.loop-edge-test.true in (
      length-set _ _ _ ∙ c.loop-edge.invariant.0,
      links_more c.args.plan.machine.now c.as_slice-edge-items.result.now c.args.plan.net.now.tree.edges c.loop-edge.edge-index _ c.index-place.result c.loop-edge.routes
          c.index-routes-place.result c.with.result c.as_slice-edge-items.ensures c.loop-edge-test.true inside c.index-place.ensures.value
          (subst (λ n. c.index-place.result < n) (sym c.loop-edge.invariant.0) c.index-place.ensures.below)
          c.index-routes-place.is c.with.ensures c.loop-edge.invariant.1,
      off_kept c.args.plan.machine.now c.args.plan.net.now _ c.index-place.result c.with.result c.loop-edge.routes inside on c.index-place.ensures.value c.loop-edge.invariant.2,
    )
