-- By rounds, one after the other.
use Rattle.mesh_round.proofs.FlowLaw.{rounds_stand}
use Rattle.mesh_round.proofs.flow_laws.rounds_keep_the_ledger.Goals as goal

pub returns : goal.returns
returns c = λ patience turns m n nets packets mesh right job rounds. (rounds_stand patience turns m n nets packets mesh right job rounds).job
