use Rattle.mesh_drain.proofs.Common.{arith}
use Rattle.mesh_drain.proofs.{Again.brought, Turns.on_both}
use Rattle.mesh_drain.proofs.draining.send_first.Goals as goal

pub send_packet-requires-clause-can : goal.send_packet-requires-clause-can
send_packet-requires-clause-can c = record { may = c.requires.may; none = c.new-waiting.ensures.items; exists = c.requires.there }

pub returns-clause-brought : goal.returns-clause-brought
returns-clause-brought c = grind (arith, on_both, brought)
