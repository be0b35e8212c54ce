-- For each place of the route passed, the last first, its next stands in the list; other rows have what they had.
use Rattle.cover_merge.proofs.Common.{IsFirstOfRoute, Row, get_or, length, ℕ, ◌≡◌, ◌≢◌, ◌≤◌}
use Rattle.cover_merge.proofs.TriedLemmas.{AreNewerAt}
use Rattle.cover_merge.proofs.choosing.find_newer.Given as goal

abbrev pub invariant-loop-k : goal.invariant-loop-k
invariant-loop-k l = record {
  within : l.k ≤ length l.places;
  all : length l.newer.items ≡ length l.linked.table.rows.now;
  done : AreNewerAt l.k l.places l.linked.table.rows.now l.times l.newer.items;
  others : (bits j : ℕ) (d : Row) → IsFirstOfRoute l.linked.table.rows.now bits l.fn.first → (get_or l.linked.table.rows.now j d).route.bits ≢ bits → get_or l.newer.items j 0 ≡ get_or l.fn.newer.items j 0;
}

abbrev pub decreases-loop-k : goal.decreases-loop-k
decreases-loop-k l = l.k
