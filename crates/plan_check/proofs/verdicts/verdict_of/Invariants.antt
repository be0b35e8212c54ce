-- The nets passed are fine, and the boards are as long as before.
use Rattle.plan_check.proofs.Common.{length, ◌*◌, ◌≡◌}
use Rattle.plan_check.proofs.Chips.{AreFine}
use Rattle.plan_check.proofs.verdicts.verdict_of.Given as goal

abbrev pub invariant-loop-at : goal.invariant-loop-at
invariant-loop-at l =
    AreFine l.tables.grid.machine.now l.tables.grid.image.now l.nets l.at
    × (length l.ports ≡ l.tables.grid.machine.now.width * l.tables.grid.machine.now.height)
    × (length l.routes ≡ l.tables.grid.machine.now.width * l.tables.grid.machine.now.height)
