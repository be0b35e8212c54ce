use Rattle.app_loads.proofs.Common.{end_places, index_of, slice_get-get_or}
use Rattle.app_loads.proofs.Claiming.{ends_more}
use Rattle.app_loads.proofs.claims.push_tree.Goals as goal

pub loop-edge-preserved : goal.loop-edge-preserved
loop-edge-preserved c =
    ends_more (end_places c.args.one.machine.now) c.as_slice-edge-items.result.now c.loop-edge.edge-index _ c.args.chips.now.items c.loop-edge.chips.items c.push_end.new.chips.items
    (index_of c.args.one.machine.now c.args.one.net.now.tree.root)
    (slice_get-get_or c.as_slice-edge-items.result.now c.loop-edge.edge-index _ c.loop-edge-test.true) c.loop-edge.invariant c.in_ok-push_end.ensures
