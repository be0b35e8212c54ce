use Rattle.place_fit.proofs.Common.{ArePlaced, length, ◌≡◌}
use Rattle.place_fit.proofs.placing.place.Given as goal

-- the vertices so far stand on the board, at their spots
abbrev pub invariant-loop-i : goal.invariant-loop-i
invariant-loop-i l = record {
  each_one : length l.spots ≡ l.i;
  placed : ArePlaced l.machine l.graph.vertices l.spots l.memory l.board;
}
