-- Of the places passed, the last first, the next of each and the first of each number stand in the lists.
use Rattle.cover_merge.proofs.Common.{IsAhead, get_or, length, ℕ, ◌+◌, ◌<◌, ◌≡◌, ◌≤◌}
use Rattle.cover_merge.proofs.links.links_of.Given as goal

abbrev pub invariant-loop-k : goal.invariant-loop-k
invariant-loop-k l = record {
  within : l.k ≤ length l.numbers;
  one_each : length l.next.items ≡ length l.numbers;
  limit : length l.heads.items ≡ length l.routes;
  firsts : (c : ℕ) → c < length l.heads.items → IsAhead l.numbers l.k c (get_or l.heads.items c 0);
  nexts : (j : ℕ) → l.k ≤ j → j < length l.numbers → IsAhead l.numbers (j + 1) (get_or l.numbers j 0) (get_or l.next.items j 0);
}

abbrev pub decreases-loop-k : goal.decreases-loop-k
decreases-loop-k l = l.k
