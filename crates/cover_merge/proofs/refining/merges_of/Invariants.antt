-- So far the merges up to the places passed.
use Rattle.cover_merge.proofs.Common.{Block, get_or, length, merged_block, take, ℕ, ◌+◌, ◌<◌, ◌≡◌}
use Rattle.cover_merge.proofs.refining.merges_of.Given as goal

abbrev pub invariant-loop-k : goal.invariant-loop-k
invariant-loop-k l = record {
  as_many : length l.merges.items ≡ l.k;
  some : 0 < l.k;
  each : (j : ℕ) (d : Block) → j < length l.merges.items → get_or l.merges.items j d ≡ merged_block l.rows (take (j + 1) l.set);
}
