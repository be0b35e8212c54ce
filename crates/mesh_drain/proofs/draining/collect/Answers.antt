use Rattle.mesh_drain.proofs.Common.{Collect}
use Rattle.mesh_drain.proofs.Frame.{onward_by}
use Rattle.mesh_drain.proofs.draining.collect.Goals as goal

pub returns-clause-reached : goal.returns-clause-reached
returns-clause-reached c = onward_by c.args.mesh.now c.step.new.self (Collect c.args.vertex) tt c.in_ok-step.ensures.moves
