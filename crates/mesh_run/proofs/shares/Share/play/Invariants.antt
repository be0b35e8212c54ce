use Rattle.mesh_run.proofs.Common.{IsShareOf, PlaysRound}
use Rattle.mesh_run.proofs.shares.Share.play.Given as goal

-- so many turns were played
abbrev pub invariant-loop-step : goal.invariant-loop-step
invariant-loop-step g l =
    IsShareOf l.ground.footing.setup.now l.ground.around.links.now l.self × PlaysRound l.ground.footing.setup.now l.ground.around.patience l.step l.fn.self l.self
