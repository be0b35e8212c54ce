-- The mesh after the copy was sent is the one that the step gives.
use Rattle.mesh_core.proofs.Common.{Inject, Some, State, arith, drop_front, ltb-true, push_at, slice_get-get_or, state_of, step_of, with_items, with_items_is, ◌≡◌}
use Rattle.mesh_core.proofs.{Keeping.IsMesh-step_of, StepParts.after_event-moved}
use Rattle.mesh_core.proofs.meshes.Mesh.inject.Goals as goal

-- the lists after the event
after : goal.After-self-2-1 → State
after c = record (state_of c.self.inside) {
  unsent = (with_items c.self.inside.unsent c.drop_front.new.queues).items;
  inputs = (with_items c.self.inside.inputs c.push_at.new.queues).items;
}

moves : (c : goal.After-self-2-1) → step_of (state_of c.self.inside) (Inject c.args.v) ≡ Some (after c)
unfolding after
moves c = grind (arith, slice_get-get_or, ltb-true, after, with_items_is)

pub invariant_of-self-2 : goal.invariant_of-self-2
unfolding after
invariant_of-self-2 c = IsMesh-step_of (state_of c.self.inside) (after c) (Inject c.args.v) c.self.invariant (moves c)

pub returns-clause-moves : goal.returns-clause-moves
unfolding after
returns-clause-moves c = grind (arith, after, after_event-moved, moves)
