use Rattle.machine_desc.proofs.Common.{arith, length-set}
use Rattle.machine_desc.proofs.{Listing.TellsCores-more, Listing.TellsCores-skip, grids.Grid.core_table.Goals.then-spot-lt-CORES, grids.Grid.core_table.Goals.else-spot-lt-CORES}
use Rattle.machine_desc.proofs.grids.Grid.core_table.Goals as goal

pub loop-spot-preserved : goal.loop-spot-preserved
loop-spot-preserved c = grind (arith, then-spot-lt-CORES, length-set, TellsCores-more, else-spot-lt-CORES, TellsCores-skip)
