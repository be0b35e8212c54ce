use Rattle.mesh_core.proofs.Queued.{free_behind, once_in_queue}
use Rattle.mesh_core.proofs.laws.a_packet_waits_once.Goals as goal

pub returns-clause-behind_a_hand : goal.returns-clause-behind_a_hand
returns-clause-behind_a_hand c = λ s nets labels chip out k mesh ledger has. free_behind s nets labels ledger mesh chip out k has

pub returns-clause-in_a_queue : goal.returns-clause-in_a_queue
returns-clause-in_a_queue c = λ s nets labels b q number ledger at. once_in_queue s nets labels ledger b q at number
