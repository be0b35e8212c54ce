use Rattle.std.proofs.Common.{rules}
use Rattle.tcam_find.proofs.KnownLemmas.{blocks_passed}
use Rattle.tcam_find.proofs.known.Known.next_block.Goals as goal

pub returns-clause-others : goal.returns-clause-others
returns-clause-others c i behind before = search (rules, blocks_passed)
