-- The places passed do not fail.
use Rattle.cover_merge.proofs.Common.{PassesUp, get_or, place_for, ℕ, ◌<◌}
use Rattle.cover_merge.proofs.refining.all_pass.Given as goal

abbrev pub invariant-loop-k : goal.invariant-loop-k
invariant-loop-k l = (n : ℕ) → n < l.k → PassesUp l.route.table.rows.now l.route.places.now (get_or l.route.places.now n 0) (place_for l.route.table.rows.now l.general)
