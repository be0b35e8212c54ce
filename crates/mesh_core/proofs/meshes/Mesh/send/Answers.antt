-- The mesh after the copy was sent is the one that the step gives.
use Rattle.mesh_core.proofs.Common.{Send, Some, State, and_from, arith, state_of, step_of, with_items, with_items_is, ◌≡◌}
use Rattle.mesh_core.proofs.{Enabled.if_some, StepParts.arrived_is, StepParts.after_event-moved, Keeping.IsMesh-step_of}
use Rattle.mesh_core.proofs.meshes.Mesh.send.Goals as goal

-- the lists after the event
after : goal.After-self-3-1 → State
after c = record (state_of c.self.inside) {
  inputs = (with_items c.self.inside.inputs c.push_behind.new.inputs).items;
  cores = (with_items c.self.inside.cores c.push_behind.new.cores).items;
  hands = (with_items c.self.inside.hands c.serve.new.hands).items;
}

moves : (c : goal.After-self-3-1) → step_of (state_of c.self.inside) (Send c.args.c c.args.out) ≡ Some (after c)
unfolding after
moves c = grind (arith, after, with_items_is, if_some, and_from, arrived_is)

pub invariant_of-self-2 : goal.invariant_of-self-2
unfolding after
invariant_of-self-2 c = IsMesh-step_of (state_of c.self.inside) (after c) (Send c.args.c c.args.out) c.self.invariant (moves c)

pub returns-clause-moves : goal.returns-clause-moves
unfolding after
returns-clause-moves c = grind (arith, after, after_event-moved, moves)
