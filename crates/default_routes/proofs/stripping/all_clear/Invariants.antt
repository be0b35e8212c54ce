-- The rows passed meet no alias of the row.
use Rattle.default_routes.proofs.Common.{Misses, Row, get_or, ℕ, ◌<◌}
use Rattle.default_routes.proofs.stripping.all_clear.Given as goal

abbrev pub invariant-loop-s : goal.invariant-loop-s
invariant-loop-s l = (k : ℕ) (d : Row) → k < l.s-index → Misses (get_or l.at.rows.now (get_or l.at.places.now k 0) d).block l.row
