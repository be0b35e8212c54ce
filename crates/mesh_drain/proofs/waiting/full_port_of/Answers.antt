use Rattle.mesh_drain.proofs.Common.{arith}
use Rattle.mesh_drain.proofs.Ports.{at_each_port}
use Rattle.mesh_drain.proofs.waiting.full_port_of.Goals as goal

pub returns-clause-none : goal.returns-clause-none
returns-clause-none c = grind (arith, at_each_port)
