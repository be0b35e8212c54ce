use Rattle.place_fit.proofs.Common.{AreSettled, take, ◌≡◌}
use Rattle.place_fit.proofs.boards.Board.settle.Given as goal

-- the chips of the spots so far have all their memory
abbrev pub invariant-loop-spot : goal.invariant-loop-spot
invariant-loop-spot l = record {
  settled : AreSettled (take l.spot-index l.spots) l.fn.self l.self;
  same : l.self.cores.items ≡ l.fn.self.cores.items;
}
