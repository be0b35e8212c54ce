use Rattle.mesh_run.proofs.GatheringLaws.{GatheredTo}
use Rattle.mesh_run.proofs.gathering.MeshLogs.gather.Given as goal

-- what the shares so far logged was gathered
abbrev pub invariant-loop-number : goal.invariant-loop-number
invariant-loop-number l = GatheredTo l.fn.shares l.shares l.number l.fn.self l.self l.moved
