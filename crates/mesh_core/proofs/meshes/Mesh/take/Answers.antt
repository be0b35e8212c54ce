-- The mesh after the copy was taken is the one that the step gives.
use Rattle.mesh_core.proofs.Common.{Description, List, McCopy, None, Some, State, Take, ap, arith, drop_front, front_of, index_of, is_live_chip, length, outputs, queue_at, set, slice_get, state_of}
use Rattle.mesh_core.proofs.Common.{step_of, subst, sym, true, with_item, with_items, with_items_is, ℕ, ◌*◌, ◌<◌, ◌∙◌, ◌≡◌}
use Rattle.mesh_core.specs.Step.{in_hand}
use Rattle.mesh_core.proofs.{Keeping.IsMesh-step_of, StepParts.step_of-take, StepParts.answer-moved, StepParts.after_event-moved, ServingLaws.outputs_at, ServingLaws.no_hand}
use Rattle.mesh_core.proofs.meshes.Mesh.take.Goals as goal

-- the lists after the event
after : goal.After-self-2-1 → State
after c = record (state_of c.self.inside) {
  inputs = (with_items c.self.inside.inputs c.drop_front.new.queues).items;
  hands = (with_item c.self.inside.hands c.index-chip.result c.taken.result).items;
}

moves : (c : goal.After-self-2-1) → step_of (state_of c.self.inside) (Take c.args.c c.args.port) ≡ Some (after c)
unfolding after
moves c =
    let s : State = state_of c.self.inside in
    let chip : ℕ = index_of s.setup.machine c.args.c in
    let queue : ℕ = queue_at s.setup.machine c.args.c c.args.port in
    let live : is_live_chip s.setup.machine c.args.c ≡ true = cc in
    let machine : c.machine-machine.result.now ≡ s.setup.machine = c.machine-machine.ensures in
    let at : c.index-chip.result ≡ chip = c.index-chip.ensures.value ∙ ap (λ (m : Description). index_of m c.args.c) machine in
    let below : c.index-chip.result < s.setup.machine.width * s.setup.machine.height =
    subst (λ (m : Description). c.index-chip.result < m.width * m.height) machine c.index-chip.ensures.below in
    let place : c.queue_place-queue.result ≡ queue = c.queue_place-queue.ensures.place ∙ ap (λ (m : Description). queue_at m c.args.c c.args.port) machine in
    let free : slice_get s.hands chip ≡ Some None =
    ap (slice_get s.hands) (sym at) ∙ no_hand s.hands c.index-chip.result c.index.result.now
    (omega (arith, c.self.invariant.hand_list, below)) c.index.ensures (sym c.is_some.ensures ∙ c.if-is_some.false) in
    let front : Some c.in-Some.copy ≡ front_of (slice_get s.inputs queue) = cc in
    let is_inputs : (after c).inputs ≡ drop_front s.inputs queue (slice_get s.inputs queue) =
    with_items_is c.self.inside.inputs c.drop_front.new.queues (omega arith)
    ∙ (c.drop_front.ensures
    ∙ (ap (λ (l : List (List McCopy)). drop_front l c.queue_place-queue.result (slice_get l c.queue_place-queue.result)) c.deref_mut.ensures.value
    ∙ ap (λ (n : ℕ). drop_front s.inputs n (slice_get s.inputs n)) place)) in
    let is_hands : (after c).hands ≡ set s.hands chip (in_hand c.in-Some.copy c.args.port (outputs s.setup c.args.c c.args.port c.in-Some.copy)) =
    ap (λ (n : ℕ). set s.hands n c.taken.result) at
    ∙ ap (set s.hands chip) (c.taken.ensures ∙ ap (in_hand c.in-Some.copy c.args.port)
    (outputs_at s c.args.c c.args.port c.in-Some.copy c.index-chip.result c.tables.result.now c.index-tables-chip.result _ at c.tables.ensures
    (omega (arith, c.self.invariant.table_list, below, ap length c.tables.ensures)) c.index-tables-chip.is)) in
    step_of-take s c.args.c c.args.port c.in-Some.copy (after c).inputs (after c).hands live free front is_inputs is_hands

pub invariant_of-self : goal.invariant_of-self
unfolding after
invariant_of-self c = IsMesh-step_of (state_of c.self.inside) (after c) (Take c.args.c c.args.port) c.self.invariant (moves c)

pub returns-clause-answer : goal.returns-clause-answer
returns-clause-answer c = grind (arith, answer-moved, after, moves)

pub returns-clause-moves : goal.returns-clause-moves
unfolding after
returns-clause-moves c = grind (arith, after, after_event-moved, moves)
