use Rattle.link_detours.proofs.Common.{arith, below_six}
use Rattle.link_detours.proofs.{Waving.next_link, Searching.dir_number_at}
use Rattle.link_detours.proofs.detours.last_link.Goals as goal

pub returns-in-Some-clause-found : goal.returns-in-Some-clause-found
returns-in-Some-clause-found c = grind (arith, dir_number_at)

pub loop-dir-preserved : goal.loop-dir-preserved
loop-dir-preserved c = grind (arith, next_link, dir_number_at)

pub returns-clause-none : goal.returns-clause-none
returns-clause-none c = grind (arith, below_six)
