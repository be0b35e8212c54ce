use Rattle.link_detours.proofs.Common.{arith, cases_Bool, false≢true}
use Rattle.link_detours.proofs.grounds.Ground.has_inside.Goals as goal

pub returns : goal.returns
returns c = grind (arith, cases_Bool, false≢true)
