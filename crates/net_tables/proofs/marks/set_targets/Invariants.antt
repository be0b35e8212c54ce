use Rattle.net_tables.proofs.Common.{IsClearOff, TellsRoutes, [], length, take, ◌*◌, ◌≡◌}
use Rattle.net_tables.proofs.marks.set_targets.Given as goal

-- the routes tell of all edges, and of the targets that were read
abbrev pub invariant-loop-target : goal.invariant-loop-target
invariant-loop-target l =
    (length l.routes ≡ l.plan.machine.now.width * l.plan.machine.now.height)
    × (TellsRoutes l.plan.machine.now l.plan.net.now.tree.edges [] l.fn.routes → TellsRoutes l.plan.machine.now l.plan.net.now.tree.edges (take l.target-index l.plan.net.now.targets) l.routes)
    × (IsClearOff l.plan.machine.now l.plan.net.now l.fn.routes → IsClearOff l.plan.machine.now l.plan.net.now l.routes)
