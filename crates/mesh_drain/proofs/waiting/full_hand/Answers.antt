use Rattle.mesh_drain.proofs.Common.{arith}
use Rattle.mesh_drain.proofs.Ports.{no_hand}
use Rattle.mesh_drain.proofs.waiting.full_hand.Goals as goal

pub returns-clause-none : goal.returns-clause-none
returns-clause-none c = grind (arith, no_hand)
