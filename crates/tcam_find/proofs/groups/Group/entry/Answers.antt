use Rattle.std.proofs.Common.{rules}
use Rattle.tcam_find.proofs.MemoryLemmas.{get-entries_of}
use Rattle.tcam_find.proofs.groups.Group.entry.Goals as goal

pub returns : goal.returns
returns c = search (rules, get-entries_of)
