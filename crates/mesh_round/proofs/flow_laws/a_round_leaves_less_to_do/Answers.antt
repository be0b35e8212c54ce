-- Each move of a round makes the marks lighter.
use Rattle.mesh_round.proofs.Lighter.{round_lighter, moved_lighter}
use Rattle.mesh_round.proofs.flow_laws.a_round_leaves_less_to_do.Goals as goal

pub returns-clause-no_more : goal.returns-clause-no_more
returns-clause-no_more c = round_lighter

pub returns-clause-less : goal.returns-clause-less
returns-clause-less c = moved_lighter
