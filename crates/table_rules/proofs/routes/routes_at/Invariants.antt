-- The routes of the weights that were read.
use Rattle.table_rules.proofs.Common.{Route, map, take, ◌%◌, ◌^◌, ◌≡◌}
use Rattle.table_rules.proofs.routes.routes_at.Given as goal

abbrev pub invariant-loop-weight : goal.invariant-loop-weight
invariant-loop-weight l = map (λ (r : Route). r.bits) l.routes.items ≡ map (λ w. w % 2 ^ 24) (take l.weight-index l.weights)
