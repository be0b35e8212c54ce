-- Each number from there on is one of those passed, and those are no less.
use Rattle.table_rules.proofs.Common.{Contains, get_or, length, ℕ, ◌+◌, ◌<◌, ◌≤◌}
use Rattle.table_rules.proofs.freeing.full_from.Given as goal

abbrev pub invariant-loop-k : goal.invariant-loop-k
invariant-loop-k l = record {
  below : l.full ≤ l.routes;
  full : (b : ℕ) → l.full ≤ b → b < l.routes → Contains l.bits b;
  passed : (j d : ℕ) → length l.bits ≤ j + l.k → j < length l.bits → l.full ≤ get_or l.bits j d;
}
