-- The row may stand before the later rows that were passed.
use Rattle.std.proofs.Common.{ℕ, ◌<◌, get_or}
use Rattle.tern_word.specs.{declared.tables.Row.Row, Placed.MayStandBefore}
use Rattle.tern_word.proofs.soundness.stands_before_all.Given as goal

abbrev pub invariant-loop-later : goal.invariant-loop-later
invariant-loop-later l = (k : ℕ) (d : Row) → l.at < k → k < l.later → MayStandBefore (get_or l.rows l.at d) (get_or l.rows k d)
