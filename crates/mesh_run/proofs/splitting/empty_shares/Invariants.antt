use Rattle.mesh_run.proofs.SplitLaws.{NothingTo}
use Rattle.mesh_run.proofs.splitting.empty_shares.Given as goal

-- the shares of the runs so far
abbrev pub invariant-loop-to : goal.invariant-loop-to
invariant-loop-to l = NothingTo l.runs l.queues l.vertices l.to-index l.from l.shares.items
