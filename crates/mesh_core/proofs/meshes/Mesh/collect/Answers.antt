-- The mesh after the copy was delivered is the one that the step gives.
use Rattle.mesh_core.proofs.Common.{Collect, Some, State, arith, drop_front, state_of, step_of, with_items, with_items_is, ◌≡◌}
use Rattle.mesh_core.proofs.Keeping.{IsMesh-step_of}
use Rattle.mesh_core.proofs.meshes.Mesh.collect.Goals as goal

-- the lists after the event
after : goal.After-self-1 → State
after c = record (state_of c.self.inside) {
  cores = (with_items c.self.inside.cores c.drop_front.new.queues).items;
  delivered = c.push.new.self;
}

moves : (c : goal.After-self-1) → step_of (state_of c.self.inside) (Collect c.args.v) ≡ Some (after c)
unfolding after
moves c = grind (arith, after, with_items_is)

pub invariant_of-self-2 : goal.invariant_of-self-2
unfolding after
invariant_of-self-2 c = IsMesh-step_of (state_of c.self.inside) (after c) (Collect c.args.v) c.self.invariant (moves c)
