-- A table that is short enough is covered.
use Rattle.default_routes.proofs.Common.{Contains-get_or, Contains-map, Covers, List, Merge, Row, arith, get_or, length, sets_of, short, subst, sym, ◌≤◌}
use Rattle.default_routes.proofs.shortening.cover_long.Goals as goal

pub returns-clause-covered : goal.returns-clause-covered
returns-clause-covered c =
    let rows = c.args.table.rows in
    let enough : length rows ≤ c.args.target = omega (arith, c.len.ensures) in
    subst (λ (merges : List Merge). Covers c.args.target rows (sets_of merges) rows) (sym c.new-merges.ensures) (short rows enough)

pub returns-clause-routes : goal.returns-clause-routes
returns-clause-routes c = λ k d h.
    let rows = c.args.table.rows in
    Contains-map (λ (r : Row). r.route) rows (get_or rows k d) (Contains-get_or rows k d h)
