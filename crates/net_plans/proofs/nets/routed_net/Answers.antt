use Rattle.net_plans.proofs.Common.{refl}
use Rattle.net_plans.proofs.Routing.{way_of}
use Rattle.net_plans.proofs.nets.routed_net.Goals as goal

pub returns : goal.returns
returns c = record {
  names = refl;
  net = c.get.result.now;
  at = c.get.ensures;
  block = c.get-block.result.now;
  keyed = c.get-block.ensures;
  way = way_of c.args.ground.now.machine.now c.args.spots.now c.get.result.now c.get-block.result.now c.net_plan-way.result c.net_plan-way.ensures.planned c.net_plan-way.ensures.routing
      c.net_plan-way.ensures.reached c.net_plan-way.ensures.cause;
}
