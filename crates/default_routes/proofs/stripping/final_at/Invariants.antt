-- The entries of the places that were read.
use Rattle.default_routes.proofs.Common.{entry_of, map, rows_at, take, ◌≡◌}
use Rattle.default_routes.proofs.stripping.final_at.Given as goal

abbrev pub invariant-loop-place : goal.invariant-loop-place
invariant-loop-place l = l.entries ≡ map entry_of (rows_at l.at.rows.now (take l.place-index l.at.places.now))
