use Rattle.mesh_drain.proofs.Common.{arith}
use Rattle.mesh_drain.proofs.{Packets.few_in_mesh, Ports.no_core}
use Rattle.mesh_drain.proofs.waiting.full_core.Goals as goal

pub overflow_cast-vertex : goal.overflow_cast-vertex
overflow_cast-vertex c = grind (arith, few_in_mesh c.args.mesh.now c.every_mesh_is_one.ensures)

pub overflow_cast-result : goal.overflow_cast-result
overflow_cast-result c = grind (arith, few_in_mesh c.args.mesh.now c.every_mesh_is_one.ensures)

pub returns-clause-none : goal.returns-clause-none
returns-clause-none c = grind (arith, no_core)
