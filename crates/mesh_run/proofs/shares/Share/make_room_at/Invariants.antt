use Rattle.mesh_run.proofs.Common.{SameCopies}
use Rattle.mesh_run.proofs.shares.Share.make_room_at.Given as goal

-- the copies are as they were
abbrev pub invariant-loop-number : goal.invariant-loop-number
invariant-loop-number l = SameCopies l.fn.self l.self
