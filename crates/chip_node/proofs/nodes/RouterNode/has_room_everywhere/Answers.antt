use Rattle.chip_node.proofs.Common.{All, Behind, HasRoomIn, Option, arith, subst, take_all}
use Rattle.chip_node.proofs.Looking.{room_everywhere}
use Rattle.chip_node.proofs.nodes.RouterNode.has_room_everywhere.Goals as goal

pub returns-clause-yes : goal.returns-clause-yes
returns-clause-yes c = λ yes.
    let h = c.args.hold.now in
    let all = take_all c.loop-slot.slot-index c.args.self.behind.now (omega arith) in
    room_everywhere c.args.around.capacity c.args.self h
    (subst (All (λ (slot : Option Behind). HasRoomIn c.args.around.capacity slot h)) all c.loop-slot.invariant) (omega arith)
