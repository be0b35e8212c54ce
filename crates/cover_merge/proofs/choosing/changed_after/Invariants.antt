-- The rows passed changed no later.
use Rattle.cover_merge.proofs.Common.{IsNextSince, length, suc, ◌-◌}
use Rattle.cover_merge.proofs.choosing.changed_after.Given as goal

abbrev pub invariant-loop-place : goal.invariant-loop-place
invariant-loop-place l = IsNextSince l.rows l.times l.behind.k (suc l.time) l.place

abbrev pub decreases-loop-place : goal.decreases-loop-place
decreases-loop-place l = length l.rows - l.place
