use Rattle.std.proofs.Common.{rules}
use Rattle.tcam_find.proofs.KnownLemmas.{at_set, blocks_after, missed_before}
use Rattle.tcam_find.proofs.known.Known.put.Goals as goal

pub invariant_of-self : goal.invariant_of-self
invariant_of-self c = search (rules, blocks_after)

pub returns-clause-entry : goal.returns-clause-entry
returns-clause-entry c key miss = search (rules, at_set)

pub returns-clause-others : goal.returns-clause-others
returns-clause-others c = search (rules, missed_before)
