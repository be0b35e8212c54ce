use Rattle.machine_desc.proofs.Far.{far_back, far_forth}
use Rattle.machine_desc.proofs.machines.Machine.links_lead_back.Goals as goal

pub returns : goal.returns
returns c = λ a e d here there. (far_back c.args.self.now a e d here, far_forth c.args.self.now a e d there)
