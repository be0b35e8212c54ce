-- The mesh without the copy is a mesh.
use Rattle.mesh_core.proofs.Common.{arith, drop_front, state_of, with_items_is}
use Rattle.mesh_core.proofs.Changes.{IsMesh-dropped}
use Rattle.mesh_core.proofs.meshes.Mesh.drop_unsent.Goals as goal

pub invariant_of-self : goal.invariant_of-self
invariant_of-self c = grind (arith, with_items_is c.self.inside.unsent c.drop_front.new.queues (omega arith), IsMesh-dropped (state_of c.self.inside) c.args.vertex c.self.invariant)
