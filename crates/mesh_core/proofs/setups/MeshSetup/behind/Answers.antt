-- A core leads to the vertex on it, if there is one.
use Rattle.mesh_core.proofs.Common.{arith, spot_of_core}
use Rattle.mesh_core.proofs.{Ways.none_from, Ways.vertex_behind_stands, ServingLaws.vertex_behind-core}
use Rattle.mesh_core.proofs.setups.MeshSetup.behind.Goals as goal

pub returns-then-core-lt-CORES-clause-queue : goal.returns-then-core-lt-CORES-clause-queue
returns-then-core-lt-CORES-clause-queue c = grind (arith, vertex_behind-core (c.args.self.now).spots (record { chip = c.args.c; core = c.in-Core.core }) c.if-core-lt-CORES.true)

pub returns-else-core-lt-CORES-clause-queue : goal.returns-else-core-lt-CORES-clause-queue
returns-else-core-lt-CORES-clause-queue c = grind (arith, none_from, vertex_behind_stands, spot_of_core)
