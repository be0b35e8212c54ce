use Rattle.mesh_run.proofs.Common.{arith}
use Rattle.mesh_run.proofs.GatheringLaws.{gathered_all}
use Rattle.mesh_run.proofs.gathering.MeshLogs.gather.Goals as goal

pub returns-clause-cleared : goal.returns-clause-cleared
returns-clause-cleared c =
    (gathered_all c.args.shares.now c.loop-number.shares c.loop-number.number c.args.self.now c.loop-number.self c.loop-number.moved c.loop-number.invariant (omega arith)).cleared
