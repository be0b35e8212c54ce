-- The list has the rivals before row r.
use Rattle.cover_merge.proofs.Common.{◌<◌}
use Rattle.cover_merge.proofs.RivalLemmas.{AreRivalsOf}
use Rattle.cover_merge.proofs.rivals.rivals_behind.Given as goal

abbrev pub invariant-loop-r : goal.invariant-loop-r
invariant-loop-r l = AreRivalsOf (λ k. k < l.r) l.row.rows.now l.row.serials.now l.row.s l.list
