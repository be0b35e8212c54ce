use Rattle.std.proofs.Common.{rules}
use Rattle.tcam_find.proofs.MemoryLemmas.{set-entries_of}
use Rattle.tcam_find.proofs.groups.Group.set.Goals as goal

pub returns : goal.returns
returns c = search (rules, set-entries_of)
