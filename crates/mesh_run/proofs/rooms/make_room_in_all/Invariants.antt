use Rattle.mesh_run.proofs.Common.{SameCopies}
use Rattle.mesh_run.proofs.Going.{GoneTo}
use Rattle.mesh_run.proofs.rooms.make_room_in_all.Given as goal

-- the shares so far have more room
abbrev pub invariant-loop-number : goal.invariant-loop-number
invariant-loop-number l = GoneTo SameCopies l.fn.shares.items l.shares.items l.number
