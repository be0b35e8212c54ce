-- The event keeps the ledger, and no Dump is enabled where queues hold as many copies as there are packets.
use Rattle.mesh_core.proofs.Common.{IsMesh, subst}
use Rattle.mesh_core.proofs.{NoDump.idle_result, EventsLaw.ledger-after_result}
use Rattle.mesh_core.proofs.meshes.Mesh.step.Goals as goal

pub returns-clause-ledger : goal.returns-clause-ledger
returns-clause-ledger c =
    ledger-after_result c.act.result c.args.self.now c.act.new.self c.args.e (subst IsMesh c.self.view_is c.self.invariant) c.act.ensures.moves c.act.ensures.err

pub returns-clause-roomy : goal.returns-clause-roomy
returns-clause-roomy c = idle_result c.act.result c.args.self.now c.args.e (subst IsMesh c.self.view_is c.self.invariant) c.act.ensures.answer
