-- Neither the hand nor a dump record has the packet.
use Rattle.mesh_core.proofs.Common.{arith, sym, ◌∙◌}
use Rattle.mesh_core.proofs.Searching.{output_lacks}
use Rattle.mesh_core.proofs.meshes.Mesh.at_output.Goals as goal

pub returns-in_err-place : goal.returns-in_err-place
returns-in_err-place c =
    grind (arith, output_lacks c.args.self.now c.args.packet c.args.chip c.args.out c.requires (sym c.holds.ensures ∙ c.if-holds.false) (sym c.dump_at.ensures ∙ c.in_err-place.was))
