use Rattle.mesh_run.proofs.Common.{All, HoldsAll, LinkEnds, List, WasUp}
use Rattle.mesh_run.proofs.Resting.{RestSoFar}
use Rattle.mesh_run.proofs.queues.rest_all.Given as goal

-- the links so far rest
abbrev pub invariant-loop-place : goal.invariant-loop-place
invariant-loop-place g l =
    (back : List LinkEnds) × HoldsAll back l.fn.standing × All (WasUp l.cap) back × RestSoFar l.cap back l.place l.standing l.quiet l.free
