use Rattle.mesh_drain.proofs.Common.{arith}
use Rattle.mesh_drain.proofs.Opened.{opens}
use Rattle.mesh_drain.proofs.opening.open_mesh.Goals as goal

pub add_packets-requires : goal.add_packets-requires
add_packets-requires c = grind arith

pub returns-clause-opened : goal.returns-clause-opened
returns-clause-opened c = grind (arith, opens)
