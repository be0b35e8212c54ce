use Rattle.link_detours.proofs.Common.{arith, false≢true, far_inside, opposite_of-opposite}
use Rattle.link_detours.proofs.{Putting.bit_of, Reaching.link_turned}
use Rattle.link_detours.proofs.detours.step_before.Goals as goal

pub returns-then-not-has_inside-clause-none : goal.returns-then-not-has_inside-clause-none
returns-then-not-has_inside-clause-none c = grind (arith, link_turned, false≢true)

pub returns-then-has-clause-found : goal.returns-then-has-clause-found
returns-then-has-clause-found c = grind (arith, link_turned, opposite_of-opposite)

pub returns-else-has-clause-none : goal.returns-else-has-clause-none
returns-else-has-clause-none c = grind (arith, link_turned, false≢true)

pub has-requires : goal.has-requires
has-requires c = grind (arith, bit_of, far_inside)
