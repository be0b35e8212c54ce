use Rattle.chip_node.proofs.Common.{All, HasRoomBehind, take}
use Rattle.chip_node.proofs.nodes.RouterNode.has_room.Given as goal

-- there is room at the outputs so far
abbrev pub invariant-loop-out : goal.invariant-loop-out
invariant-loop-out l = All (HasRoomBehind l.around.capacity l.self l.hold) (take l.out-index l.outs)
