use Rattle.chip_node.proofs.Common.{HasAmpleRoom, IsIdleAt, IsReadyRouter, IsTrue, Moved, Port, Stays, port_number, port_place, ◌≡◌, ◌≢◌}
use Rattle.chip_node.proofs.GoingRound.{GoneBy}
use Rattle.chip_node.proofs.nodes.RouterNode.turn.Given as goal

-- nothing was done so far; where there is room and all are looked at, that is since the queues of the ports so far are empty
abbrev pub invariant-ports : goal.invariant-ports
invariant-ports g l = record {
  stays : Stays l.fn.hold l.hold;
  ready : IsReadyRouter l.around.links.now l.self l.hold;
  none : l.found ≢ Moved;
  idle : IsTrue l.all → HasAmpleRoom l.around.capacity l.fn.hold → GoneBy (λ j. (port : Port) → port_number port ≡ j → IsIdleAt l.fn.hold.ends.items (port_place l.self.index port)) l.start 7 l.step;
}
