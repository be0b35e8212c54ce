-- The mesh after the copy was dropped is the one that the step gives.
use Rattle.mesh_core.proofs.Common.{Dump, Some, State, and_from, arith, state_of, step_of, with_items, with_items_is, ◌≡◌}
use Rattle.mesh_core.proofs.{Enabled.if_some, Keeping.IsMesh-step_of}
use Rattle.mesh_core.proofs.meshes.Mesh.dump.Goals as goal

-- the lists after the event
after : goal.After-self-1 → State
after c = record (state_of c.self.inside) {
  hands = (with_items c.self.inside.hands c.serve.new.hands).items;
  dumped = c.push.new.self;
}

moves : (c : goal.After-self-1) → step_of (state_of c.self.inside) (Dump c.args.c c.args.out) ≡ Some (after c)
unfolding after
moves c = grind (arith, after, with_items_is, if_some, and_from)

pub invariant_of-self-2 : goal.invariant_of-self-2
unfolding after
invariant_of-self-2 c = IsMesh-step_of (state_of c.self.inside) (after c) (Dump c.args.c c.args.out) c.self.invariant (moves c)
