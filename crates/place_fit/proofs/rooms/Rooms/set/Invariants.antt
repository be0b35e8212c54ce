use Rattle.place_fit.proofs.Common.{drop, slice_set, ◌*◌, ◌/◌, ◌<◌, ◌^◌, ◌≡◌, ◌≤◌}
use Rattle.place_fit.proofs.RoomLaws.{IsTreeBut}
use Rattle.place_fit.proofs.rooms.Rooms.set.Given as goal

-- the leaves are the rooms with the new one, and all nodes but the parent have the greater of their children's rooms
abbrev pub invariant-loop-node : goal.invariant-loop-node
invariant-loop-node l = record {
  few : l.self-inside.levels ≤ 12;
  leaves : l.self-inside.leaves ≡ 2 ^ l.self-inside.levels;
  rooms : drop l.self-inside.leaves l.self-inside.tree.items ≡ slice_set l.fn.self l.place l.room;
  but : IsTreeBut l.self-inside.leaves (l.node / 2) l.self-inside.tree.items;
  some : 1 ≤ l.node;
  within : l.node < 2 * l.self-inside.leaves;
}

abbrev pub decreases-loop-node : goal.decreases-loop-node
decreases-loop-node l = l.node
