use Rattle.std.proofs.Common.{arith}
use Rattle.tcam_find.proofs.MemoryLemmas.{empty_is, length_empty, unused_matches}
use Rattle.tcam_find.proofs.memory.Tcam.empty.Goals as goal

pub returns : goal.returns
returns c = grind (arith, empty_is c.nothing.result.groups.items c.nothing.ensures, length_empty, unused_matches)
