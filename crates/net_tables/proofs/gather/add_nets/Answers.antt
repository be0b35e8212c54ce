use Rattle.net_tables.proofs.Common.{IsRouted, arith, subst, sym, ∥∥₁_map}
use Rattle.net_tables.proofs.Marking.{originals_more}
use Rattle.net_tables.proofs.gather.add_nets.Goals as goal

pub invariant_of-plan : goal.invariant_of-plan
invariant_of-plan c =
    record { routed = ∥∥₁_map c.args.plans.routed (λ all. subst (IsRouted c.args.plans.machine.now) (sym c.net-item.is) (all c.loop-net.net-index c.net-item.result c.loop-net-test.true)) }

pub loop-net-preserved : goal.loop-net-preserved
loop-net-preserved c = grind (arith, originals_more)
