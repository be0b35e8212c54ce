use Rattle.app_loads.proofs.Common.{AppNet, key_claim, refl, slice_get_read}
use Rattle.app_loads.proofs.Claiming.{one_more}
use Rattle.app_loads.proofs.claims.claim_keys.Goals as goal

pub loop-net-preserved : goal.loop-net-preserved
loop-net-preserved c =
    one_more (λ j (net : AppNet). key_claim j net.keys net.fixed) c.args.nets.list.now c.loop-net.net c.index-list-net.result c.args.claims.now.items c.loop-net.claims.items
    c.push_keys.new.claims.items
    (slice_get_read c.args.nets.list.now _ c.loop-net.net c.index-list-net.result refl c.loop-net-test.true c.index-list-net.is) c.loop-net.invariant c.in_ok-push_keys.ensures
