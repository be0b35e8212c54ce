use Rattle.net_plans.proofs.Common.{Err, ap, drop, into_iter_items, length, refl, rules, subst, sym, ◌+◌, ◌∙◌, ◌∷◌, ◌≡◌}
use Rattle.link_detours.specs.declared.repairs.RepairErr.TheVariants.{CutOff}
use Rattle.net_plans.proofs.{Planning.long_more, Routing.HaveWaysTo, Routing.dropped_head, Routing.one_way_more, Routing.ways_before}
use Rattle.net_plans.proofs.nets.looked_through.Goals as goal

pub loop-item-preserved : goal.loop-item-preserved
loop-item-preserved c =
    let items = c.args.routed.items in
    let left : drop (length c.loop-item.plans) items ≡ c.in-Some.item ∷ into_iter_items c.next.new.self = sym c.loop-item.invariant.3 ∙ c.in-Some.ensures.steps.0 in
    let head = dropped_head items (length c.loop-item.plans) c.in-Some.item (into_iter_items c.next.new.self) left in
    let more : length c.push.new.self ≡ length c.loop-item.plans + 1 =
    long_more c.loop-item.plans c.push.new.self c.in-Ok.plan (length c.loop-item.plans) refl c.in_ok-push.ensures.ok
    in (
      tt,
      tt,
      subst (HaveWaysTo items c.push.new.self) (sym more)
          (one_way_more items c.loop-item.plans c.push.new.self (length c.loop-item.plans) c.in-Some.item c.in-Ok.plan c.loop-item.invariant.2 head.0 c.in-Ok.is c.in_ok-push.ensures.ok),
      sym head.1 ∙ ap (λ n. drop n items) (sym more),
    )

pub returns-in-Err-CutOff-clause-first : goal.returns-in-Err-CutOff-clause-first
returns-in-Err-CutOff-clause-first c =
    let items = c.args.routed.items in
    let left : drop (length c.loop-item.plans) items ≡ c.in-Some.item ∷ into_iter_items c.next.new.self = sym c.loop-item.invariant.3 ∙ c.in-Some.ensures.steps.0 in
    let head = dropped_head items (length c.loop-item.plans) c.in-Some.item (into_iter_items c.next.new.self) left in
    let cut : c.in-Some.item.way ≡ Err (CutOff c.in-Err-CutOff.target) = search rules in
    record {
      place = length c.loop-item.plans;
      item = c.in-Some.item;
      at = head.0;
      names = refl;
      cut_off = cut;
      before = ways_before items c.loop-item.plans (length c.loop-item.plans) c.loop-item.invariant.2;
    }
