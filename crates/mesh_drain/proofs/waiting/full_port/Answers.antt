use Rattle.mesh_drain.proofs.Common.{arith}
use Rattle.mesh_drain.proofs.Ports.{no_input}
use Rattle.mesh_drain.proofs.waiting.full_port.Goals as goal

pub returns-clause-none : goal.returns-clause-none
returns-clause-none c = grind (arith, no_input)
