-- The list has the rivals among the places passed.
use Rattle.cover_merge.proofs.RivalLemmas.{AreRivalsOf, IsAmong}
use Rattle.cover_merge.proofs.rivals.rivals_among.Given as goal

abbrev pub invariant-loop-k : goal.invariant-loop-k
invariant-loop-k l = AreRivalsOf (IsAmong l.joined l.k) l.row.rows.now l.row.serials.now l.row.s l.list
