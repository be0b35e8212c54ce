use Rattle.app_loads.proofs.Common.{arith, length-zip, memory_claim, zip}
use Rattle.app_loads.proofs.Claiming.{one_more, whole_at, zip_at}
use Rattle.app_loads.proofs.claims.claim_memory.Goals as goal

pub loop-vertex-preserved : goal.loop-vertex-preserved
loop-vertex-preserved c =
    one_more memory_claim (zip c.args.needs.spots.now c.args.needs.bytes.now) c.loop-vertex.vertex _ c.args.claims.now.items c.loop-vertex.claims.items c.push_memory.new.claims.items
    (zip_at c.args.needs.spots.now c.args.needs.bytes.now c.loop-vertex.vertex _ _ c.args.needs.each c.loop-vertex-test.true) c.loop-vertex.invariant c.in_ok-push_memory.ensures

pub returns : goal.returns
returns c = grind (arith, whole_at, length-zip)
