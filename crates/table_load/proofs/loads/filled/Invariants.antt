use Rattle.std.proofs.Common.{◌≡◌, ◌++◌, length, take, drop}
use Rattle.tcam_find.specs.Memory.{empty_memory}
use Rattle.table_load.proofs.loads.filled.Given as goal

-- the rows so far stand in the memory
abbrev pub invariant-loop-at : goal.invariant-loop-at
invariant-loop-at l = record {
  entries : l.roomy.entries ≡ take l.at l.rows ++ drop l.at empty_memory;
  room : l.roomy.room ≡ length l.rows;
}
