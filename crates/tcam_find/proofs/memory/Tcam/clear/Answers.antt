use Rattle.tcam_find.proofs.MemoryLemmas.{length_held}
use Rattle.tcam_find.proofs.memory.Tcam.clear.Goals as goal

pub returns-clause-size : goal.returns-clause-size
returns-clause-size c = length_held c.clear.new.self.groups.items c.clear.new.self.few
