use Rattle.net_plans.proofs.Common.{AreRoutedNets, CanRouteAt, IfOk-then, List, RoutedNet, ap, arith, length, nat_range, nat_range-All, range_with_len, subst, sym, ◌-◌, ◌∙◌, ◌≡◌}
use Rattle.net_plans.proofs.Routing.{routed_all}
use Rattle.net_plans.proofs.nets.routed_nets.Goals as goal

pub collect-requires-clause-ready : goal.collect-requires-clause-ready
collect-requires-clause-ready g c κs within =
    let ends = c.into_par_iter.ensures in
    let inside = nat_range-All (CanRouteAt c.args.ground.now.machine.now c.args.graph.now c.args.spots.now c.args.blocks.now)
    0 (length c.args.graph.now.nets) (λ i low high. record { can = c.requires; is_net = high }) in
    rw (c.map.ensures.base, c.map.ensures.f, ends.0, ends.1, c.len.ensures) (λ k d lt. (inside k d lt, λ y p. tt))

pub returns : goal.returns
returns g c =
    let ends = c.into_par_iter.ensures in
    let n = c.len.result in
    let whole : n - 0 ≡ n = omega arith in
    IfOk-then c.collect.result _ _ c.collect.ensures (λ v h.
    let chain = rw (c.map.ensures.base, c.map.ensures.f) at h.1 in
    let places : chain.0 ≡ range_with_len 0 (length c.args.graph.now.nets) = chain.1 ∙ (λ i. nat_range (ends.0 i) (ends.1 i)) ∙ ap (range_with_len 0) whole ∙ ap (range_with_len 0) c.len.ensures in
    subst (λ (items : List RoutedNet). AreRoutedNets c.args.ground.now.machine.now c.args.spots.now c.args.graph.now.nets c.args.blocks.now items) (sym h.2)
    (routed_all c.args.ground.now.machine.now c.args.spots.now c.args.graph.now.nets c.args.blocks.now h.0 chain.0 places chain.2))
