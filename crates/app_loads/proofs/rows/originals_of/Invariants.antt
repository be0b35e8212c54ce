use Rattle.app_loads.proofs.Common.{nets_of, take, ◌≡◌}
use Rattle.app_loads.proofs.rows.originals_of.Given as goal

-- the nets so far
abbrev pub invariant-loop-at : goal.invariant-loop-at
invariant-loop-at l = l.nets ≡ take l.at (nets_of l.app)
