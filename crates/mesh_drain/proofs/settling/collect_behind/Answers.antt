use Rattle.mesh_drain.proofs.Common.{arith}
use Rattle.mesh_drain.proofs.{Frame.dropless, Packets.few_in_mesh}
use Rattle.mesh_drain.proofs.settling.collect_behind.Goals as goal

pub overflow_cast-vertex : goal.overflow_cast-vertex
overflow_cast-vertex c = grind (arith, few_in_mesh c.args.mesh.now c.every_mesh_is_one.ensures)

pub returns-in-Core-clause-collected : goal.returns-in-Core-clause-collected
returns-in-Core-clause-collected c = grind arith

pub returns-in-Core-clause-reached : goal.returns-in-Core-clause-reached
returns-in-Core-clause-reached c = dropless c.args.mesh.now c.collect.new.mesh c.collect.ensures.reached
