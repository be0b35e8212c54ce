use Rattle.net_plans.proofs.Common.{All, ArePlanned, HasNoneCutOff, HaveWays, IfErr-weaker, IfOk-weaker, IsFirstWithout, IsNetCause, IsRoutingTree, NetPlan}
use Rattle.net_plans.proofs.{CutOffLaws.refused_first, Routing.planned_of, Routing.routing_of, Routing.reached_of, Routing.cause_of}
use Rattle.net_plans.proofs.nets.net_plans.Goals as goal

pub returns-clause-planned : goal.returns-clause-planned
returns-clause-planned g c =
    let p = c.args.placed in
    let m = p.machine.now in
    let items = c.in-Ok.routed.items in
    IfOk-weaker c.looked_through.result (HaveWays items) (ArePlanned m p.spots.now p.graph.now.nets c.args.placed.blocks.now)
    (λ plans have. planned_of m p.spots.now p.graph.now.nets c.args.placed.blocks.now items c.in-Ok.ensures plans have) c.looked_through.ensures.all

pub returns-clause-routing : goal.returns-clause-routing
returns-clause-routing g c =
    let p = c.args.placed in
    let m = p.machine.now in
    let items = c.in-Ok.routed.items in
    IfOk-weaker c.looked_through.result (HaveWays items)
    (All (λ (p : NetPlan). IsRoutingTree m p.tree.root p.tree.edges p.targets))
    (λ plans have. routing_of m p.spots.now p.graph.now.nets c.args.placed.blocks.now items c.in-Ok.ensures plans have) c.looked_through.ensures.all

pub returns-clause-reached : goal.returns-clause-reached
returns-clause-reached g c =
    let p = c.args.placed in
    let m = p.machine.now in
    let items = c.in-Ok.routed.items in
    IfOk-weaker c.looked_through.result (HaveWays items) (λ _. All (HasNoneCutOff m p.spots.now) p.graph.now.nets)
    (λ plans have. reached_of m p.spots.now p.graph.now.nets c.args.placed.blocks.now items c.in-Ok.ensures plans have) c.looked_through.ensures.all

pub returns-clause-cause : goal.returns-clause-cause
returns-clause-cause g c =
    let p = c.args.placed in
    let m = p.machine.now in
    let items = c.in-Ok.routed.items in
    IfErr-weaker c.looked_through.result (IsFirstWithout items) (IsNetCause m p.spots.now p.graph.now.nets)
    (λ e first. cause_of m p.spots.now p.graph.now.nets c.args.placed.blocks.now items c.in-Ok.ensures e first) c.looked_through.ensures.first

pub returns-clause-cut_off : goal.returns-clause-cut_off
returns-clause-cut_off g c =
    let p = c.args.placed in
    refused_first p.machine.now p.spots.now p.graph.now.nets c.looked_through.result (returns-clause-reached g c) (returns-clause-cause g c)
