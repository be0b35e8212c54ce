use Rattle.chip_node.proofs.Common.{All, HasRoomIn, take}
use Rattle.chip_node.proofs.nodes.RouterNode.has_room_everywhere.Given as goal

-- there is room behind the outputs so far
abbrev pub invariant-loop-slot : goal.invariant-loop-slot
invariant-loop-slot l = All (λ slot. HasRoomIn l.around.capacity slot l.hold) (take l.slot-index l.self.behind.now)
