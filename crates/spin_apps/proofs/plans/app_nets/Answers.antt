use Rattle.spin_apps.proofs.Planning.{nets_more, reached_more, valid_more}
use Rattle.spin_apps.proofs.plans.app_nets.Goals as goal

pub loop-i-preserved : goal.loop-i-preserved
loop-i-preserved c = record {
  nets = nets_more c.args.machine.now c.args.spots.now c.args.nets.now c.loop-i.i c.get-net.result.now c.loop-i.routed
      c.push.new.self c.in-Ok.app c.get-net.ensures c.loop-i.invariant.nets c.in-Ok.ensures.net
      c.in_ok-push.ensures.ok;
  valid = valid_more c.args.machine.now c.args.spots.now c.loop-i.routed c.push.new.self c.in-Ok.app c.loop-i.invariant.valid c.in-Ok.ensures.valid c.in_ok-push.ensures.ok;
  reached = reached_more c.args.machine.now c.args.spots.now c.args.nets.now c.loop-i.i c.get-net.result.now c.loop-i.invariant.reached c.get-net.ensures c.in-Ok.ensures.reached;
}
