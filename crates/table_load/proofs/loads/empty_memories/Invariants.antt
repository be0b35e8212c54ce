use Rattle.std.proofs.Common.{◌≡◌, replicate}
use Rattle.tcam_find.specs.Memory.{empty_memory}
use Rattle.table_load.proofs.loads.empty_memories.Given as goal

-- so many memories stand, all empty
abbrev pub invariant-loop : goal.invariant-loop
invariant-loop l = l.memories.items ≡ replicate l.counter empty_memory
