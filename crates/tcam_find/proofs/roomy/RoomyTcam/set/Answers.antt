use Rattle.tcam_find.proofs.MemoryLemmas.{length_held}
use Rattle.tcam_find.proofs.roomy.RoomyTcam.set.Goals as goal

pub returns-clause-size : goal.returns-clause-size
returns-clause-size c = length_held c.set.new.self.groups.items c.set.new.self.few
