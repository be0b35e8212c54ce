use Rattle.mesh_run.proofs.Common.{All, AreEnds, HoldsAll, LinkEnds, List, length, ◌≡◌, ◌≤◌}
use Rattle.mesh_run.proofs.Holding.{DownFrom}
use Rattle.mesh_run.proofs.queues.bring_down.Given as goal

-- the last links are down
abbrev pub invariant-loop-gone : goal.invariant-loop-gone
invariant-loop-gone g l =
    (all : List LinkEnds) × HoldsAll all l.fn.standing × All AreEnds all × (length all ≤ length l.fn.queues.items) × (l.count ≡ length all)
    × DownFrom all l.gone l.standing l.fn.queues.items l.queues.items
