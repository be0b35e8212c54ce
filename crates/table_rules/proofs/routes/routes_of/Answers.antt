-- The weights tell the routes.
use Rattle.table_rules.proofs.Common.{AreRoutesOf, IfOk-weaker, Route, ap, map, ◌%◌, ◌^◌, ◌∙◌, ◌≡◌}
use Rattle.table_rules.proofs.Weights.{are_routes}
use Rattle.table_rules.proofs.routes.routes_of.Goals as goal

pub returns : goal.returns
returns c =
    IfOk-weaker c.routes_at.result (λ routes. map (λ (r : Route). r.bits) routes.items ≡ map (λ w. w % 2 ^ 24) c.as_slice.result.now) (λ routes. AreRoutesOf c.args.pieces.now routes.items)
    (λ routes read. are_routes c.args.pieces.now routes.items c.in_ok-weights.weights.items c.each_weight_once.new.weights.items c.in_ok-weights.ensures c.each_weight_once.ensures.rising c.each_weight_once.ensures.same
    (read ∙ ap (map (λ w. w % 2 ^ 24)) c.as_slice.ensures.value))
    c.routes_at.ensures
