use Rattle.mesh_run.proofs.Common.{IsShareOf, ◌-◌, ◌≤◌}
use Rattle.mesh_run.proofs.Acting.{OneEach}
use Rattle.mesh_run.proofs.shares.Share.turn_each.Given as goal

-- the actors below the place took at most one turn
abbrev pub invariant-actors : goal.invariant-actors
invariant-actors g l =
    IsShareOf l.ground.footing.setup.now l.ground.around.links.now l.self × (l.fn.self.from ≤ l.at)
    × OneEach l.ground.footing.setup.now l.ground.around.patience l.fn.self l.at l.self

abbrev pub decreases-actors : goal.decreases-actors
decreases-actors g l = l.self.to - l.at
