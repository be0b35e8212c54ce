use Rattle.tcam_find.proofs.KnownLemmas.{blocks_empty}
use Rattle.tcam_find.proofs.known.Known.nothing.Goals as goal

pub invariant_of-result : goal.invariant_of-result
invariant_of-result c = record { blocks = blocks_empty }
