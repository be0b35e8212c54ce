use Rattle.net_tables.proofs.Common.{[], replicate, ◌≡◌}
use Rattle.net_tables.proofs.gather.empty_lists.Given as goal

-- so far there are as many empty lists as were made
abbrev pub invariant-loop : goal.invariant-loop
invariant-loop l = l.lists.items ≡ replicate l.counter []
