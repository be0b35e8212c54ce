use Rattle.net_tables.proofs.Common.{TellsPorts, length, take, ◌*◌, ◌≡◌}
use Rattle.net_tables.proofs.marks.set_ports.Given as goal

-- the ports tell of the edges that were read
abbrev pub invariant-loop-edge : goal.invariant-loop-edge
invariant-loop-edge l =
    (length l.ports ≡ l.plan.machine.now.width * l.plan.machine.now.height) × TellsPorts l.plan.machine.now l.plan.net.now.tree.root (take l.edge-index l.plan.net.now.tree.edges) l.ports
