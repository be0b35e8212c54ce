use Rattle.place_fit.proofs.Common.{◌^◌}
use Rattle.place_fit.proofs.RoomLaws.{IsFound}
use Rattle.place_fit.proofs.rooms.Rooms.first_above.Given as goal

-- of the nodes of this level, the first with enough room
abbrev pub invariant-loop-step : goal.invariant-loop-step
invariant-loop-step l = IsFound l.self-inside.tree.items l.need (2 ^ l.step) l.node
