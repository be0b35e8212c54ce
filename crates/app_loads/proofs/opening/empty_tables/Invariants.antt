use Rattle.app_loads.proofs.Common.{empty_memory, replicate, ◌≡◌}
use Rattle.app_loads.proofs.opening.empty_tables.Given as goal

-- so many tables stand, all empty
abbrev pub invariant-loop : goal.invariant-loop
invariant-loop l = l.tables.items ≡ replicate l.counter empty_memory
