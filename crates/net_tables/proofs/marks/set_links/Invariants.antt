use Rattle.net_tables.proofs.Common.{IsClearOff, TellsRoutes, [], length, take, ◌*◌, ◌≡◌}
use Rattle.net_tables.proofs.marks.set_links.Given as goal

-- the routes tell of the edges that were read
abbrev pub invariant-loop-edge : goal.invariant-loop-edge
invariant-loop-edge l =
    (length l.routes ≡ l.plan.machine.now.width * l.plan.machine.now.height)
    × TellsRoutes l.plan.machine.now (take l.edge-index l.plan.net.now.tree.edges) [] l.routes × IsClearOff l.plan.machine.now l.plan.net.now l.routes
