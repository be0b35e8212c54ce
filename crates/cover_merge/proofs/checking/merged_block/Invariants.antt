-- So far the merge is that of the rows at the places passed.
use Rattle.cover_merge.proofs.Common.{merged_block, take, ◌≡◌}
use Rattle.cover_merge.proofs.checking.merged_block.Given as goal

abbrev pub invariant-loop-k : goal.invariant-loop-k
invariant-loop-k l = l.merged ≡ merged_block l.rows (take l.k l.set.places.now)
