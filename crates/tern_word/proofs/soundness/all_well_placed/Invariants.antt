-- The rows passed are well placed.
use Rattle.std.proofs.Common.{ℕ, ◌<◌}
use Rattle.tern_word.specs.Placed.{IsWellPlaced}
use Rattle.tern_word.proofs.soundness.all_well_placed.Given as goal

abbrev pub invariant-loop-at : goal.invariant-loop-at
invariant-loop-at l = (k : ℕ) → k < l.at → IsWellPlaced l.rows k
