use Rattle.mesh_run.proofs.Common.{AreUp, HoldsAll, LinkEnds, List, map, queue_of_link, ◌+◌}
use Rattle.mesh_run.proofs.Resting.{SoFar, StaysAs}
use Rattle.mesh_run.proofs.queues.widen_all.Given as goal

-- the links so far have places, and hold what they held
abbrev pub invariant-loop-place : goal.invariant-loop-place
invariant-loop-place g l =
    (back : List LinkEnds) × HoldsAll back l.fn.standing × AreUp l.places.cap 0 (map queue_of_link back) back × SoFar (StaysAs l.places.cap (l.places.turns + 1)) back l.place l.standing
