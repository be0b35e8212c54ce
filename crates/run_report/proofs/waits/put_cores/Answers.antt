use Rattle.run_report.proofs.Gathering.{cores_more}
use Rattle.run_report.proofs.waits.put_cores.Goals as goal

pub loop-vertex-preserved : goal.loop-vertex-preserved
loop-vertex-preserved c =
    cores_more c.args.numbered.mesh.now c.spots-spot-items.result.now c.loop-vertex.vertex _ c.args.waiting.now.items c.loop-vertex.waiting.items c.put_copies.new.waiting.items c.core_queue.result.now
    c.spots-spot-items.ensures c.loop-vertex-test.true c.core_queue.ensures c.loop-vertex.invariant c.in_ok-put_copies.ensures
