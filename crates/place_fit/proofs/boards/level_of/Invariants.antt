use Rattle.place_fit.proofs.Common.{ℕ, ◌<◌, ◌^◌, ◌≡◌, ◌≤◌}
use Rattle.place_fit.proofs.boards.level_of.Given as goal

-- the side of the level's square, and no square of a level before holds the grid
abbrev pub invariant-loop-level : goal.invariant-loop-level
invariant-loop-level l = record {
  side : l.side ≡ 2 ^ l.level;
  none : (j : ℕ) → j < l.level → l.width ≤ 2 ^ j → l.height ≤ 2 ^ j → ⊥;
}
