use Rattle.mesh_run.proofs.Common.{Away, [], replicate, ◌≡◌}
use Rattle.mesh_run.proofs.splitting.empty_holdings.Given as goal

-- the places so far
abbrev pub invariant-loop-queue : goal.invariant-loop-queue
invariant-loop-queue l = l.ends.items ≡ replicate l._queue Away

abbrev pub invariant-loop-vertex : goal.invariant-loop-vertex
invariant-loop-vertex l = l.unsent.items ≡ replicate l._vertex []
