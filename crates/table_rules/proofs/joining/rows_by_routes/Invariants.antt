-- With the rows of the routes that are left, the rows are those of all.
use Rattle.table_rules.proofs.Common.{drop, rows_by_routes, ◌++◌, ◌≡◌}
use Rattle.table_rules.proofs.joining.rows_by_routes.Given as goal

abbrev pub invariant-loop-route : goal.invariant-loop-route
invariant-loop-route l = l.rows.items ++ rows_by_routes (drop l.route-index l.routes) l.left.items ≡ rows_by_routes l.routes l.pieces
