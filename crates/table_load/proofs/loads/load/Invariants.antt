use Rattle.std.proofs.Common.{◌≡◌, ℕ, ◌*◌, ◌<◌, length, take, Some, slice_get}
use Rattle.table_load.specs.Memories.{rows_of_index, loaded}
use Rattle.table_load.proofs.loads.load.Given as goal

-- the memories of the tables so far are loaded, and the others empty
abbrev pub invariant-loop-table : goal.invariant-loop-table
invariant-loop-table l =
    (length l.memories.items ≡ l.image.width * l.image.height)
    × ((i : ℕ) → i < l.image.width * l.image.height
    → slice_get l.memories.items i ≡ Some (loaded (rows_of_index l.image.height (take l.table-index l.image.chips) i)))
