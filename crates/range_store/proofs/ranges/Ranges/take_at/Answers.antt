use Rattle.range_store.proofs.Common.{arith}
use Rattle.range_store.proofs.RunLemmas.{widen, cut_is, fits_any}
use Rattle.range_store.proofs.ranges.Ranges.take_at.Goals as goal

pub invariant_of-holes : goal.invariant_of-holes
invariant_of-holes c = grind (arith, widen)

pub invariant_of-self-2 : goal.invariant_of-self-2
invariant_of-self-2 c = (c.self.invariant.0, (cut_is c.self.invariant.1 c.requires c.as_slice.ensures.value c.in-Some.ensures.at c.in_ok-cut_out.ensures.ok).runs)

pub returns-clause-taken : goal.returns-clause-taken
returns-clause-taken c _ = grind (arith, cut_is c.self.invariant.1 c.requires c.as_slice.ensures.value c.in-Some.ensures.at c.in_ok-cut_out.ensures.ok)

pub returns-clause-free : goal.returns-clause-free
returns-clause-free c _ = grind (arith, cut_is c.self.invariant.1 c.requires c.as_slice.ensures.value c.in-Some.ensures.at c.in_ok-cut_out.ensures.ok)

pub returns-clause-runs : goal.returns-clause-runs
returns-clause-runs c = (cut_is c.self.invariant.1 c.requires c.as_slice.ensures.value c.in-Some.ensures.at c.in_ok-cut_out.ensures.ok).runs

pub returns-clause-found : goal.returns-clause-found
returns-clause-found c = grind (arith, fits_any)
