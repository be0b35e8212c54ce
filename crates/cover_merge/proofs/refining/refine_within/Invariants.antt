-- Steps within the bounds lead from the places at the start to those now.
use Rattle.cover_merge.proofs.Common.{IsGone, IsOneRoute, length}
use Rattle.cover_merge.proofs.refining.refine_within.Given as goal

abbrev pub invariant-refining : goal.invariant-refining
invariant-refining l = record {
  set : IsOneRoute l.table.rows.now l.set.items;
  gone : IsGone l.table.rows.now l.fn.places l.set.items l.outer l.low;
}

abbrev pub decreases-refining : goal.decreases-refining
decreases-refining l = length l.set.items
