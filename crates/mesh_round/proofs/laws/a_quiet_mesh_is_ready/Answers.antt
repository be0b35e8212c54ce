-- Nothing waits in its hands.
use Rattle.mesh_round.proofs.laws.a_quiet_mesh_is_ready.Goals as goal

pub returns : goal.returns
returns c = λ s quiet. quiet.hands_empty
