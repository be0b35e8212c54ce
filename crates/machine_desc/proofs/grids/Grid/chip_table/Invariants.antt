use Rattle.machine_desc.proofs.Common.{TellsChips, chip_total, length, take, ◌≡◌}
use Rattle.machine_desc.proofs.grids.Grid.chip_table.Given as goal

-- the table tells of what was read
abbrev pub invariant-loop-chip : goal.invariant-loop-chip
invariant-loop-chip l = (length l.table.items ≡ chip_total l.self) × TellsChips l.self l.table.items (take l.chip-index l.listed)
