-- By rounds, one after the other.
use Rattle.mesh_round.proofs.Passes.{passes_keep_mesh, rounds_pass}
use Rattle.mesh_round.proofs.flow_laws.rounds_lead_to_a_mesh.Goals as goal

pub returns : goal.returns
returns c = λ patience turns m n mesh rounds. passes_keep_mesh patience turns m n mesh (rounds_pass patience turns m n rounds)
