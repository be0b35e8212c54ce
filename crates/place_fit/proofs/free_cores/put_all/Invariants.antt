use Rattle.place_fit.proofs.Common.{AreFreeOn, AreOthersKept, ArePlaced, Description, length, ◌≡◌}
use Rattle.place_fit.proofs.free_cores.put_all.Given as goal

-- the vertices so far stand on the board
abbrev pub invariant-loop-i : goal.invariant-loop-i
invariant-loop-i l = record {
  each_one : length l.spots.items ≡ l.i;
  kept : AreOthersKept l.spots.items l.fn.board l.board;
  placed : (m : Description) → AreFreeOn m l.fn.board → ArePlaced m l.vertices l.spots.items l.memory.items l.board;
}
