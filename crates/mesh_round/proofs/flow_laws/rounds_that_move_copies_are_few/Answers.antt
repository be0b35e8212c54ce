-- Each round takes of what is ahead of a job's packets.
use Rattle.mesh_round.proofs.FewRounds.{few_rounds}
use Rattle.mesh_round.proofs.flow_laws.rounds_that_move_copies_are_few.Goals as goal

pub returns : goal.returns
returns c = λ patience turns m n mesh moving nets packets right job.
    record { rounds = moving.rounds; few = few_rounds patience turns m nets packets mesh right job c.each_target_has_one_way.ensures.no_other n moving.rounds moving.each }
