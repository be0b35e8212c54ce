-- The rows of the places that were read, without their aliases.
use Rattle.table_rules.proofs.Common.{map, routed, rows_at, take, ◌≡◌}
use Rattle.table_rules.proofs.shortening.rows_at.Given as goal

abbrev pub invariant-loop-place : goal.invariant-loop-place
invariant-loop-place l = l.new ≡ map routed (rows_at l.at.rows.now (take l.place-index l.at.places.now))
