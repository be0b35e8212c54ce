-- A queue where a copy is dumped would have held fewer copies than there are packets.
use Rattle.mesh_round.proofs.Ample.{no_dump, rounds_no_dump}
use Rattle.mesh_round.proofs.flow_laws.a_roomy_round_drops_nothing.Goals as goal

pub returns-clause-no_record : goal.returns-clause-no_record
returns-clause-no_record c = λ patience turns m n f nets packets. no_dump patience turns m n f nets packets c.each_target_has_one_way.ensures.no_other

pub returns-clause-after_rounds : goal.returns-clause-after_rounds
returns-clause-after_rounds c = λ patience turns m n nets packets. rounds_no_dump patience turns m n nets packets c.each_target_has_one_way.ensures.no_other
