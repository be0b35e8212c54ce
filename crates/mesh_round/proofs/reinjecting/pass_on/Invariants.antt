use Rattle.mesh_round.proofs.Common.{HasPasses, IsAtRest, MayGoOn, work_in}
use Rattle.mesh_round.proofs.reinjecting.pass_on.Given as goal

-- the mesh was reached by rounds and copies put back, may go on, and is at rest
abbrev pub invariant-passes : goal.invariant-passes
invariant-passes g l = record {
  passes : HasPasses l.pace.patience l.pace.turns l.fn.laid.mesh l.parts;
  ready : MayGoOn l.parts;
  at_rest : IsAtRest l.parts;
}

abbrev pub decreases-passes : goal.decreases-passes
decreases-passes g l = work_in l.parts
