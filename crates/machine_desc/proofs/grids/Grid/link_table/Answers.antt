use Rattle.machine_desc.proofs.Common.{arith, length-set}
use Rattle.machine_desc.proofs.Listing.{TellsLinks-more}
use Rattle.machine_desc.proofs.grids.Grid.link_table.Goals as goal

pub loop-edge-preserved : goal.loop-edge-preserved
loop-edge-preserved c = grind (arith, length-set, TellsLinks-more)
