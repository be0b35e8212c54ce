use Rattle.machine_desc.proofs.Common.{arith, described}
use Rattle.machine_desc.proofs.Far.{index_below}
use Rattle.machine_desc.proofs.machines.Machine.index.Goals as goal

pub returns-clause-below : goal.returns-clause-below
returns-clause-below c = grind (arith, index_below (described c.self.inside) c.args.c (rw (← c.self.view_is) at c.requires))
