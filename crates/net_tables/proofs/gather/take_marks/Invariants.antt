use Rattle.net_tables.proofs.Common.{IsTreeChip, take}
use Rattle.net_tables.proofs.Taking.{IsTaken}
use Rattle.net_tables.proofs.gather.take_marks.Given as goal

-- the chips of the edges that were read have their marks, and the boards are clear there
abbrev pub invariant-loop-edge : goal.invariant-loop-edge
invariant-loop-edge l =
    IsTaken l.plan.machine.now (IsTreeChip l.plan.machine.now l.plan.net.now.tree.root (take l.edge-index l.plan.net.now.tree.edges)) l.plan.net.now.block
    (record { ports = l.fn.ports; routes = l.fn.routes; lists = l.fn.lists })
    (record { ports = l.ports; routes = l.routes; lists = l.lists })
