use Rattle.machine_desc.proofs.Common.{TellsLinks, chip_total, length, take, ◌*◌, ◌≡◌}
use Rattle.machine_desc.proofs.grids.Grid.link_table.Given as goal

-- the table tells of what was read
abbrev pub invariant-loop-edge : goal.invariant-loop-edge
invariant-loop-edge l = (length l.table.items ≡ chip_total l.self * 6) × TellsLinks l.self l.table.items (take l.edge-index l.listed)
