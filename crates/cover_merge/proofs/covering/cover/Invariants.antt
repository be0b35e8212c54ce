-- The merges so far lead from the first table to this one, which is sound and serves the same blocks; what is known of it
-- is so, and no row was tried later than now.
use Rattle.cover_merge.proofs.Common.{IsKnownAt, length}
use Rattle.cover_merge.proofs.CoverLemmas.{IsCoveredSoFar}
use Rattle.cover_merge.proofs.covering.cover.Given as goal

abbrev pub invariant-merging : goal.invariant-merging
invariant-merging l = record {
  so_far : IsCoveredSoFar l.target l.fn.table.rows l.table.rows l.merges;
  known : IsKnownAt (length l.merges) l.table.rows l.known;
}

abbrev pub decreases-merging : goal.decreases-merging
decreases-merging l = length l.table.rows
