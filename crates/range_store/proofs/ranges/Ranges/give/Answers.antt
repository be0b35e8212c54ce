use Rattle.range_store.proofs.Common.{arith}
use Rattle.range_store.proofs.RunLemmas.{widen}
use Rattle.range_store.proofs.ranges.Ranges.give.Goals as goal

pub invariant_of-span : goal.invariant_of-span
invariant_of-span c = grind arith

pub put_back-requires : goal.put_back-requires
put_back-requires c = widen 0 c.self.inside.size 4294967296 c.self.inside.holes.items c.self.invariant.1 c.self.invariant.0

pub invariant_of-self : goal.invariant_of-self
invariant_of-self c = grind arith

pub returns-clause-free : goal.returns-clause-free
returns-clause-free c k = grind arith

pub returns-clause-runs : goal.returns-clause-runs
returns-clause-runs c = grind arith
