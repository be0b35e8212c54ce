-- The merge of the places passed.
use Rattle.cover_merge.proofs.Common.{merged_block, take, ◌<◌, ◌≡◌}
use Rattle.cover_merge.proofs.refining.merge_from.Given as goal

abbrev pub invariant-loop-k : goal.invariant-loop-k
invariant-loop-k l = record {
  some : 0 < l.k;
  merge : l.merged ≡ merged_block l.rows (take l.k l.places);
}
