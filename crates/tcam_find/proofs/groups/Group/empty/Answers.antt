use Rattle.tcam_find.proofs.MemoryLemmas.{group_of_unused}
use Rattle.tcam_find.proofs.groups.Group.empty.Goals as goal

pub returns : goal.returns
returns c = group_of_unused _ c.nothing.ensures
