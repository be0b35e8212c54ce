use Rattle.app_loads.proofs.Claiming.{one_more}
use Rattle.app_loads.proofs.claims.claim_counted.Goals as goal
use Rattle.app_loads.proofs.Common.{entries_claim, slice_get-get_or}

pub loop-index-preserved : goal.loop-index-preserved
loop-index-preserved c =
    one_more (entries_claim c.args.rows.machine.now) c.args.rows.list.now c.loop-index.index _ c.args.claims.now.items c.loop-index.claims.items c.push_rows.new.claims.items
    (slice_get-get_or c.args.rows.list.now c.loop-index.index _ c.loop-index-test.true) c.loop-index.invariant c.in_ok-push_rows.ensures
