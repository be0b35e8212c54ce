use Rattle.mesh_round.proofs.Common.{◌≡◌}
use Rattle.mesh_round.proofs.Played.{IsReached}
use Rattle.mesh_round.proofs.rounds.run_on.Given as goal

-- the mesh was reached by rounds in each of which a copy moved, at the pace that was asked for
abbrev pub invariant-loop : goal.invariant-loop
invariant-loop g l = IsReached l.fn.pace.patience l.fn.pace.turns l.fn.laid.mesh l.raised × (l.raised.pace ≡ l.fn.pace)
