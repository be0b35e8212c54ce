use Rattle.mesh_run.proofs.Common.{SameCopies, ◌-◌}
use Rattle.mesh_run.proofs.shares.Share.make_room.Given as goal

-- the copies are as they were
abbrev pub invariant-actors : goal.invariant-actors
invariant-actors l = SameCopies l.fn.self l.self

abbrev pub decreases-actors : goal.decreases-actors
decreases-actors l = l.self.to - l.at
