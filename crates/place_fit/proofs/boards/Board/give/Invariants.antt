use Rattle.place_fit.proofs.Common.{AreGiven, take}
use Rattle.place_fit.proofs.boards.Board.give.Given as goal

-- the spots so far are free
abbrev pub invariant-loop-spot : goal.invariant-loop-spot
invariant-loop-spot l = AreGiven (take l.spot-index l.spots) l.fn.self l.self
