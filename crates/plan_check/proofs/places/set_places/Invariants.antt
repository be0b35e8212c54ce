-- The board tells of the tables passed, the last first.
use Rattle.plan_check.proofs.Common.{◌*◌}
use Rattle.plan_check.proofs.TablePlaces.{TellsFrom}
use Rattle.plan_check.proofs.places.set_places.Given as goal

abbrev pub invariant-loop-at : goal.invariant-loop-at
invariant-loop-at l = TellsFrom l.grid.image.now.height l.grid.image.now.chips l.places (l.grid.image.now.width * l.grid.image.now.height) l.at

abbrev pub decreases-loop-at : goal.decreases-loop-at
decreases-loop-at l = l.at
