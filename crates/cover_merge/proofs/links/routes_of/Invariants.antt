-- The routes of the rows passed, each once.
use Rattle.cover_merge.proofs.Common.{IsEachOnce, Row, get_or, length, place_of_route, ℕ, ◌<◌, ◌≤◌}
use Rattle.cover_merge.proofs.links.routes_of.Given as goal

abbrev pub invariant-loop-s : goal.invariant-loop-s
invariant-loop-s l = record {
  found : (k : ℕ) (d : Row) → k < l.s → place_of_route l.routes.items (get_or l.rows k d).route.bits < length l.routes.items;
  no_more : length l.routes.items ≤ l.s;
  once : IsEachOnce l.routes.items;
}
