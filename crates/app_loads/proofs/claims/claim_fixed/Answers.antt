use Rattle.app_loads.proofs.Common.{AppNet, fixed_claim, refl, slice_get_read}
use Rattle.app_loads.proofs.Claiming.{one_more}
use Rattle.app_loads.proofs.claims.claim_fixed.Goals as goal

pub loop-net-preserved : goal.loop-net-preserved
loop-net-preserved c =
    one_more (λ j (net : AppNet). fixed_claim j net.fixed) c.args.nets.list.now c.loop-net.net c.index-list-net.result c.args.claims.now.items c.loop-net.claims.items c.push_fixed.new.claims.items
    (slice_get_read c.args.nets.list.now _ c.loop-net.net c.index-list-net.result refl c.loop-net-test.true c.index-list-net.is) c.loop-net.invariant c.in_ok-push_fixed.ensures
