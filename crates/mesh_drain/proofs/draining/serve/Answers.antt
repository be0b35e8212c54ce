use Rattle.mesh_drain.proofs.Common.{Send, State, after_event, ap, arith, length, refl}
use Rattle.mesh_drain.proofs.{Frame.onward_by, Frame.onward_then, Packets.few_in_mesh, Steps.kept_after, Turns.on_ok, Turns.link_served, Turns.core_served, Turns.nowhere_served}
use Rattle.mesh_drain.proofs.draining.serve.Goals as goal

pub overflow_cast-vertex : goal.overflow_cast-vertex
overflow_cast-vertex c =
    let mesh = (kept_after c.args.mesh.now (Send c.args.chip c.args.out) c.requires.1.kept).mesh in
    let few = few_in_mesh (after_event c.args.mesh.now (Send c.args.chip c.args.out)) mesh in
    let same = ap (λ (s : State). length s.cores) c.in_ok-step.ensures.moves in
    omega (arith, few, mesh.core_lists, same, c.in-Core.ensures.place)

pub returns-in-Input-clause-reached : goal.returns-in-Input-clause-reached
returns-in-Input-clause-reached c = onward_by c.args.mesh.now c.step.new.self (Send c.args.chip c.args.out) tt c.in_ok-step.ensures.moves

pub returns-in-Input-clause-served : goal.returns-in-Input-clause-served
returns-in-Input-clause-served c =
    on_ok c.wait_beyond.result c.wait_beyond.ensures (λ more. λ rest u.
    link_served c.args.mesh.now c.step.new.self c.args.waiting.now.items c.args.chip c.args.out c.in_ok-step.ensures.moves
    c.in-Input.field-0 c.in-Input.ensures.queue c.step.new.self.setup.machine refl c.wait_beyond.new.waiting.items more rest u)

pub returns-in-Core-clause-reached : goal.returns-in-Core-clause-reached
returns-in-Core-clause-reached c =
    onward_then c.args.mesh.now c.step.new.self c.collect.new.mesh
    (onward_by c.args.mesh.now c.step.new.self (Send c.args.chip c.args.out) tt c.in_ok-step.ensures.moves) c.collect.ensures.reached

pub returns-in-Core-clause-served : goal.returns-in-Core-clause-served
returns-in-Core-clause-served c =
    on_ok c.collect.result c.collect.ensures.taken (λ last. λ rest u.
    core_served c.args.mesh.now c.step.new.self c.args.waiting.now.items c.args.chip c.args.out c.in_ok-step.ensures.moves
    c.in-Core.vertex c.in-Core.ensures.queue c.collect.new.mesh last rest u)

pub returns-in-Nowhere-clause-reached : goal.returns-in-Nowhere-clause-reached
returns-in-Nowhere-clause-reached c = onward_by c.args.mesh.now c.step.new.self (Send c.args.chip c.args.out) tt c.in_ok-step.ensures.moves

pub returns-in-Nowhere-clause-served : goal.returns-in-Nowhere-clause-served
returns-in-Nowhere-clause-served c = grind (arith, nowhere_served)
