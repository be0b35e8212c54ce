-- The places passed pass the check.
use Rattle.cover_merge.proofs.Common.{PassesUp, get_or, insert_place, ℕ, ◌<◌}
use Rattle.cover_merge.proofs.checking.up_check.Given as goal

abbrev pub invariant-loop-s : goal.invariant-loop-s
invariant-loop-s l = (k : ℕ) → k < l.s-index → PassesUp l.rows l.places (get_or l.places k 0) (insert_place l.rows l.places)
