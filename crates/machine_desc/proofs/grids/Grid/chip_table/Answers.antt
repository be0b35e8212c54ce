use Rattle.machine_desc.proofs.Common.{arith, length-set}
use Rattle.machine_desc.proofs.Listing.{TellsChips-more}
use Rattle.machine_desc.proofs.grids.Grid.chip_table.Goals as goal

pub loop-chip-preserved : goal.loop-chip-preserved
loop-chip-preserved c = grind (arith, length-set, TellsChips-more)
