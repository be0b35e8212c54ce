use Rattle.machine_desc.proofs.Common.{TellsCores, chip_total, length, take, ◌*◌, ◌≡◌}
use Rattle.machine_desc.proofs.grids.Grid.core_table.Given as goal

-- the table tells of what was read
abbrev pub invariant-loop-spot : goal.invariant-loop-spot
invariant-loop-spot l = (length l.table.items ≡ chip_total l.self * 18) × TellsCores l.self l.table.items (take l.spot-index l.listed)
