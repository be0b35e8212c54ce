use Rattle.std.proofs.Common.{◌≡◌, ◌++◌, ◌∷◌, [], length, take}
use Rattle.std.specs.{Int.w16, Int.to_le_bytes, List.flat_map}
use Rattle.table_load.specs.Images.{row_bytes}
use Rattle.table_load.proofs.writes.put_table.Given as goal

-- the rows so far are written
abbrev pub invariant-loop-entry : goal.invariant-loop-entry
invariant-loop-entry l =
    l.bytes.items ≡ l.fn.bytes.items ++ ((l.table.chip.x ∷ l.table.chip.y ∷ []) ++ to_le_bytes w16 (length l.table.entries) ++ flat_map row_bytes (take l.entry-index l.table.entries))
