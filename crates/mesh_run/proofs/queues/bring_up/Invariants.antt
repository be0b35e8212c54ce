use Rattle.mesh_run.proofs.Common.{◌+◌}
use Rattle.mesh_run.proofs.BringingUp.{UpTo}
use Rattle.mesh_run.proofs.queues.bring_up.Given as goal

-- the links of the queues so far are up
abbrev pub invariant-loop-place : goal.invariant-loop-place
invariant-loop-place g l = UpTo l.places.cap (l.places.turns + 1) l.queues l.place l.rising
