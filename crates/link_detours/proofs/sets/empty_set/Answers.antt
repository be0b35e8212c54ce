use Rattle.link_detours.proofs.Common.{arith, length-replicate}
use Rattle.link_detours.proofs.Putting.{none_in}
use Rattle.link_detours.proofs.sets.empty_set.Goals as goal

pub returns : goal.returns
returns c = grind (arith, length-replicate, none_in)
