use Rattle.key_alloc.proofs.Common.{Contains, IfSome, subst}
use Rattle.key_alloc.proofs.Taking.{right_in, taken_again, free_in}
use Rattle.key_alloc.proofs.alloc.block_for.Goals as goal

pub returns-in-Some-clause-free : goal.returns-in-Some-clause-free
returns-in-Some-clause-free c taken state among = taken_again taken _ _ state (subst (λ o. IfSome o (Contains taken)) c.in-Some.is among)

pub returns-in-None-clause-free : goal.returns-in-None-clause-free
returns-in-None-clause-free c = free_in c.args.keyed.net.now c.args.free.now _ c.least_block.result c.least_block.ensures.free

pub returns-in-None-clause-right : goal.returns-in-None-clause-right
returns-in-None-clause-right c = right_in c.args.keyed.net.now c.args.free.now c.in-None.is c.least_block.result c.least_block.ensures.least
