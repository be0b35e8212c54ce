-- So far each row that is not among the joined is original.
use Rattle.cover_merge.proofs.Common.{AreJoined}
use Rattle.cover_merge.proofs.rivals.joined_of.Given as goal

abbrev pub invariant-loop-s : goal.invariant-loop-s
invariant-loop-s l = AreJoined l.rows l.s l.joined.items
