use Rattle.std.proofs.Common.{◌≡◌, ◌++◌, take}
use Rattle.std.specs.List.{flat_map}
use Rattle.table_load.specs.Images.{head_bytes, table_bytes}
use Rattle.table_load.proofs.writes.encode.Given as goal

-- the head and the tables so far are written
abbrev pub invariant-loop-table : goal.invariant-loop-table
invariant-loop-table l = l.bytes.items ≡ head_bytes l.image ++ flat_map table_bytes (take l.table-index l.image.chips)
