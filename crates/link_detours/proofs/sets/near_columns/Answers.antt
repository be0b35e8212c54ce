use Rattle.link_detours.proofs.Common.{arith}
use Rattle.link_detours.proofs.Naming.{beside}
use Rattle.link_detours.proofs.sets.near_columns.Goals as goal

pub returns : goal.returns
returns c = grind (arith, beside)
