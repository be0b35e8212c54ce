use Rattle.link_detours.proofs.Common.{arith, false_from_ne_true, false≢true, live_ends, live_inside}
use Rattle.link_detours.proofs.grounds.Ground.has.Goals as goal

pub returns-else-is_inside : goal.returns-else-is_inside
returns-else-is_inside c = grind (arith, false_from_ne_true, false≢true, live_inside, live_ends)
