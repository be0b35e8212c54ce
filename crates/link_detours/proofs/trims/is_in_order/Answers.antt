use Rattle.link_detours.proofs.Common.{rules, take_all, ◌≤◌}
use Rattle.link_detours.proofs.Trimming.{order_more}
use Rattle.link_detours.proofs.trims.is_in_order.Goals as goal

pub loop-edge-preserved : goal.loop-edge-preserved
loop-edge-preserved c =
    let low : c.loop-edge.least ≤ c.link_place-place.result = search rules in
    order_more c.args.edges.machine.now c.args.edges.list.now c.loop-edge.edge-index _ c.loop-edge.least c.link_place-place.result c.loop-edge-test.true
    c.link_place-place.ensures.place low c.loop-edge.invariant.0 c.loop-edge.invariant.1

pub returns : goal.returns
returns c _ = rw (take_all c.loop-edge.edge-index c.args.edges.list.now c.loop-edge-test.false) at c.loop-edge.invariant.0
