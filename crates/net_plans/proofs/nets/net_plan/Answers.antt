use Rattle.net_plans.proofs.Common.{All, All-at, Chip, HasNoneCutOff, IfErr, IfErr-weaker, IfOk, IsCauseOne, IsInside, IsLiveChip, IsRepairCause, IsTreeTo, Some, arith, before_place, end_of, get_or}
use Rattle.net_plans.proofs.Common.{length, rules, subst, sym, ◌<◌, ◌≢◌}
use Rattle.net_plans.proofs.{CutOffLaws.none_cut_off, CutOffLaws.cause_one, CutOffLaws.refused_one, Planning.all_inside, Planning.source_lives, Planning.of_targets, Planning.of_chips}
use Rattle.net_plans.proofs.Planning.{routes_targets, some_chip}
use Rattle.net_plans.proofs.nets.net_plan.Goals as goal

pub invariant_of-ends : goal.invariant_of-ends
invariant_of-ends c =
    let m = c.args.placed.ground.machine.now in
    let inside = all_inside m c.args.placed.spots.now c.args.placed.sites in
    record {
      root_inside = All-at (λ s. IsInside m s.chip) c.args.placed.spots.now c.args.placed.net.now.source c.get-source.result.now inside c.get-source.ensures;
      targets_inside = of_targets (λ s. IsInside m s.chip) c.args.placed.spots.now c.args.placed.net.now.targets c.in_ok-targets.targets c.in_ok-targets.ensures inside;
    }

pub invariant_of-growth : goal.invariant_of-growth
invariant_of-growth c =
    let m = c.args.placed.ground.machine.now in
    let inside = all_inside m c.args.placed.spots.now c.args.placed.sites in
    record {
      root_inside = All-at (λ s. IsInside m s.chip) c.args.placed.spots.now c.args.placed.net.now.source c.get-source.result.now inside c.get-source.ensures;
      targets_inside = of_chips (IsInside m) m c.get-source.result.now.chip c.in_ok-targets.targets c.in_ok-chips.chips c.in_ok-chips.ensures
          (of_targets (λ s. IsInside m s.chip) c.args.placed.spots.now c.args.placed.net.now.targets c.in_ok-targets.targets c.in_ok-targets.ensures inside);
    }

pub returns-in_err-tree-clause-cause : goal.returns-in_err-tree-clause-cause
returns-in_err-tree-clause-cause c =
    let cause : IfErr c.from_residual-in_err-tree.result (IsRepairCause c.args.placed.ground.machine.now c.in_ok-grown.field-0.tree.root c.in_ok-chips.chips) = search rules in
    IfErr-weaker c.from_residual-in_err-tree.result (IsRepairCause c.args.placed.ground.machine.now c.in_ok-grown.field-0.tree.root c.in_ok-chips.chips) (IsCauseOne c.args.placed.ground.machine.now c.args.placed.spots.now c.args.placed.net.now)
    (λ e found. cause_one c.args.placed.ground.machine.now c.args.placed.spots.now c.args.placed.net.now c.get-source.result.now c.in_ok-targets.targets c.in_ok-chips.chips c.get-source.ensures c.in_ok-targets.ensures c.in_ok-chips.ensures e
    (subst (λ r. IsRepairCause c.args.placed.ground.machine.now r c.in_ok-chips.chips e) c.in_ok-grown.ensures.root found)) cause

pub returns-in_err-tree-clause-cut_off : goal.returns-in_err-tree-clause-cut_off
returns-in_err-tree-clause-cut_off c =
    let none : IfOk c.from_residual-in_err-tree.result (λ _. HasNoneCutOff c.args.placed.ground.machine.now c.args.placed.spots.now c.args.placed.net.now) = search rules in
    refused_one c.args.placed.ground.machine.now c.args.placed.spots.now c.args.placed.net.now c.from_residual-in_err-tree.result none (returns-in_err-tree-clause-cause c)

pub returns-clause-routing : goal.returns-clause-routing
returns-clause-routing c =
    routes_targets c.args.placed.ground.machine.now c.get-source.result.now.chip c.in_ok-tree.tree.root c.in_ok-tree.tree.edges c.in_ok-targets.targets c.in_ok-chips.chips c.in_ok-chips.ensures
    (subst (λ root. IsTreeTo c.args.placed.ground.machine.now root c.in_ok-tree.tree.edges c.in_ok-chips.chips) (sym c.in_ok-tree.ensures.root) c.in_ok-tree.ensures.routing)

pub returns-clause-reached : goal.returns-clause-reached
returns-clause-reached c =
    none_cut_off c.args.placed.ground.machine.now c.args.placed.spots.now c.args.placed.net.now c.get-source.result.now c.in_ok-targets.targets c.in_ok-tree.tree.edges c.get-source.ensures c.in_ok-targets.ensures
    (routes_targets c.args.placed.ground.machine.now c.get-source.result.now.chip c.get-source.result.now.chip c.in_ok-tree.tree.edges c.in_ok-targets.targets c.in_ok-chips.chips c.in_ok-chips.ensures
    (subst (λ root. IsTreeTo c.args.placed.ground.machine.now root c.in_ok-tree.tree.edges c.in_ok-chips.chips) c.in_ok-grown.ensures.root c.in_ok-tree.ensures.routing))

pub returns-clause-cut_off : goal.returns-clause-cut_off
returns-clause-cut_off c = λ target first. absurd (returns-clause-reached c first.source target first.is)

pub with_detours-requires : goal.with_detours-requires
with_detours-requires c =
    let m = c.args.placed.ground.machine.now in
    let edges = c.in_ok-grown.field-0.tree.edges in
    let root = c.in_ok-grown.ensures.root in
    let some : 0 < length c.in_ok-chips.chips =
    some_chip m c.get-source.result.now.chip c.args.placed.spots.now c.args.placed.net.now.targets c.in_ok-targets.targets c.in_ok-chips.chips
    c.in_ok-targets.ensures c.in_ok-chips.ensures c.args.placed.ends.some_target c.args.placed.ends.targets in
    record {
      grown = record {
        has_dead_links = record {
          root_lives = subst (IsLiveChip m) (sym root) (source_lives m c.args.placed.spots.now c.args.placed.net.now.source c.get-source.result.now c.args.placed.sites c.get-source.ensures);
          none_into_root = subst (λ (r : Chip). All (λ e. end_of m e ≢ Some r) edges) (sym root) c.in_ok-grown.ensures.none_into_root;
          one_into_each = c.in_ok-grown.ensures.one_into_each;
        };
        some_target = some;
        targets_inside = of_chips (IsInside m) m c.get-source.result.now.chip c.in_ok-targets.targets c.in_ok-chips.chips c.in_ok-chips.ensures
            (of_targets (λ s. IsInside m s.chip) c.args.placed.spots.now c.args.placed.net.now.targets c.in_ok-targets.targets
            c.in_ok-targets.ensures (all_inside m c.args.placed.spots.now c.args.placed.sites));
        in_order = λ i j d less short.
            before_place m (get_or edges i d) (get_or edges j d) (c.in_ok-grown.ensures.edges_inside i d (omega (arith, less, short)))
            (c.in_ok-grown.ensures.grown.in_order i j d less short);
        whole = λ lives. subst (λ (r : Chip). IsTreeTo m r edges c.in_ok-chips.chips) (sym root) (c.in_ok-grown.ensures.whole lives some);
      };
    }
