use Rattle.key_alloc.proofs.Common.{arith}
use Rattle.key_alloc.proofs.free.FreeKeys.go_on.Goals as goal

pub advance-requires : goal.advance-requires
advance-requires c = (c.requires.0, c.loop-self.invariant.free c.requires.0 c.requires.1)

pub returns-then-next_multiple_of-size-clause-free : goal.returns-then-next_multiple_of-size-clause-free
returns-then-next_multiple_of-size-clause-free c taken state = c.in_ok-free.ensures.free taken (c.loop-self.invariant.free taken state)

pub loop-self-preserved : goal.loop-self-preserved
loop-self-preserved c = record {
  free = λ taken state. c.in_ok-free.ensures.free taken (c.loop-self.invariant.free taken state);
  further = omega (arith, c.loop-self.invariant.further, c.in_ok-free.ensures.further c.loop-self-test.true);
}
