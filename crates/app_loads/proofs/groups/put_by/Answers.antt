use Rattle.app_loads.proofs.Common.{[], all_grouped, append-nil, arith, filter, is_delivery_of, not, sym, ◌∙◌, ◌≡◌}
use Rattle.app_loads.proofs.{GroupLaws.all_apart, GroupLaws.grouped_push, GroupLaws.none_apart, GroupLaws.not_own, groups.put_by.Goals.After-is_others-is_others}
use Rattle.app_loads.proofs.groups.put_by.Goals as goal

-- none of the others' deliveries is the application's
apart : (c : After-is_others-is_others) →
    (filter (is_delivery_of c.args.app.now) c.args.group.deliveries ≡ []) × (filter (λ d. not (is_delivery_of c.args.app.now d)) c.args.group.deliveries ≡ c.args.group.deliveries)
apart c =
    none_apart _ _ (c.is_others-is_others.ensures.none (c.is_others-is_others.ensures.others ∙ not_own c.args.app.now c.args.group c.requires.unmixed (sym c.is_own.ensures.own ∙ c.if-is_own.false)))

pub returns-then-is_own-clause-own : goal.returns-then-is_own-clause-own
returns-then-is_own-clause-own c = grind (arith, grouped_push, all_apart)

pub returns-then-is_own-clause-others : goal.returns-then-is_own-clause-others
returns-then-is_own-clause-others c =
    grind (arith, append-nil (all_grouped c.args.others.now.items), all_apart (is_delivery_of c.args.app.now) c.args.group.deliveries (c.is_own.ensures.all c.if-is_own.true))

pub returns-clause-own : goal.returns-clause-own
returns-clause-own c = grind (arith, append-nil (all_grouped c.args.own.now.items), apart (goal.at.returns-clause-own c).After-is_others-is_others)

pub returns-clause-others : goal.returns-clause-others
returns-clause-others c = grind (arith, grouped_push c.args.others.now.items c.args.group, apart (goal.at.returns-clause-others c).After-is_others-is_others)
