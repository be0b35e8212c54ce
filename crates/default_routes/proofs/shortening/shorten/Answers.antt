-- What covering promises of the covered table, and stripping of its rows, together.
use Rattle.default_routes.proofs.Common.{ArePlaces, List, Row, arith, refl, sets_of, subst}
use Rattle.default_routes.proofs.FinalLemmas.{loaded_routes, of_kept, serves_given, shortened}
use Rattle.default_routes.proofs.shortening.shorten.Goals as goal

pub returns-clause-table : goal.returns-clause-table
returns-clause-table c =
    shortened c.in_ok-covered.covered.table.rows c.as_slice-rows.result.now c.in_ok-kept.kept c.as_slice.result.now c.in_ok-done.done.entries c.as_slice-rows.ensures c.as_slice.ensures c.in_ok-done.ensures
    c.args.target c.args.table.rows (sets_of c.in_ok-covered.covered.merges) c.in_ok-covered.ensures.covered c.in_ok-covered.ensures.sound c.in_ok-covered.ensures.few c.in_ok-covered.ensures.ended
    c.in_ok-kept.ensures.kept c.in_ok-kept.ensures.places c.in_ok-done.done refl

pub returns-clause-routes : goal.returns-clause-routes
returns-clause-routes c =
    loaded_routes c.args.table.rows c.in_ok-covered.covered.table.rows c.in_ok-kept.kept c.in_ok-done.done.entries
    (of_kept c.in_ok-covered.covered.table.rows c.as_slice-rows.result.now c.in_ok-kept.kept c.as_slice.result.now c.in_ok-done.done.entries c.as_slice-rows.ensures c.as_slice.ensures c.in_ok-done.ensures)
    (subst (λ (rs : List Row). ArePlaces rs c.in_ok-kept.kept) c.as_slice-rows.ensures c.in_ok-kept.ensures.places).in_range c.in_ok-covered.ensures.routes

pub returns-clause-serves : goal.returns-clause-serves
returns-clause-serves c = grind (arith, serves_given, of_kept)
