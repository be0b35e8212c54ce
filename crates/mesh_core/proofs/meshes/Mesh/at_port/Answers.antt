-- The input queue has a copy of the packet, or none.
use Rattle.mesh_core.proofs.Common.{arith, sym, ◌∙◌}
use Rattle.mesh_core.proofs.Searching.{queue_has, queue_lacks}
use Rattle.mesh_core.proofs.meshes.Mesh.at_port.Goals as goal

pub returns-then-has_packet : goal.returns-then-has_packet
returns-then-has_packet c = queue_has _ _ _ _ c.requires _ c.queue.ensures (sym c.has_packet.ensures ∙ c.if-has_packet.true)

pub returns-else-has_packet : goal.returns-else-has_packet
returns-else-has_packet c =
    grind (arith, queue_lacks c.args.self.now c.args.packet c.args.chip c.args.port c.requires c.queue.result.now c.queue.ensures (sym c.has_packet.ensures ∙ c.if-has_packet.false))
