use Rattle.place_fit.proofs.Common.{hilbert, ◌^◌, ◌≡◌}
use Rattle.place_fit.proofs.curves.curve.Given as goal

-- the curve of the level so far, and its side
abbrev pub invariant-loop-level : goal.invariant-loop-level
invariant-loop-level l = (l.chips.items ≡ hilbert l.level) × (l.side ≡ 2 ^ l.level)
