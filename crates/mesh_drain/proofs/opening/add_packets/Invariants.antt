use Rattle.mesh_drain.proofs.Common.{[], opened_mesh, take, ◌≡◌}
use Rattle.mesh_drain.proofs.opening.add_packets.Given as goal

abbrev pub invariant-loop-number : goal.invariant-loop-number
invariant-loop-number l = record {
  opened : l.fn.mesh ≡ opened_mesh l.fn.mesh.setup l.nets [] → l.mesh ≡ opened_mesh l.fn.mesh.setup l.nets (take l.number l.packets);
}
