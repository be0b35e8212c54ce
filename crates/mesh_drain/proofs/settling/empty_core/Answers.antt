use Rattle.mesh_drain.proofs.Common.{Collect, State, ap, arith, set, sym, ◌∙◌, ◌≡◌}
use Rattle.mesh_drain.proofs.{Frame.reached_none, Frame.reached_by, Frame.reached_then, Steps.set_twice, Moving.after_reached, Moving.idle_from, Moving.idle_stays, Moving.lighter, Moving.mesh_after}
use Rattle.mesh_drain.proofs.{Moving.moved_enabled, Vertices.same_besides, Vertices.same_then, Vertices.collect_besides, Vertices.collect_there, Vertices.collected_there, Vertices.idle_empty}
use Rattle.mesh_drain.proofs.Vertices.{as_it_was}
use Rattle.mesh_drain.proofs.settling.empty_core.Goals as goal

pub copies-init : goal.copies-init
copies-init c = record { reached = reached_none c.args.mesh.now; others = same_besides c.args.mesh.now; there = as_it_was c.args.mesh.now.cores c.args.vertex }

pub copies-preserved : goal.copies-preserved
copies-preserved c =
    let there = collect_there c.copies.mesh c.step.new.self c.args.vertex c.in_ok-step.ensures.moves in
    record {
      reached = reached_then c.args.mesh.now c.copies.mesh c.step.new.self c.copies.invariant.reached
          (reached_by c.copies.mesh c.step.new.self (Collect c.args.vertex) tt c.in_ok-step.ensures.moves);
      others = same_then c.args.mesh.now c.copies.mesh c.step.new.self c.copies.invariant.others (collect_besides c.copies.mesh c.step.new.self c.args.vertex c.in_ok-step.ensures.moves);
      there = (there.0, there.1 ∙ (ap (λ l. set l c.args.vertex there.0) c.copies.invariant.there.1 ∙ set_twice c.args.mesh.now.cores c.args.vertex c.copies.invariant.there.0 there.0));
    }

pub copies-smaller : goal.copies-smaller
copies-smaller c =
    let mesh = mesh_after c.args.mesh.now c.copies.mesh c.every_mesh_is_one.ensures (after_reached c.args.mesh.now c.copies.mesh c.copies.invariant.reached) in
    lighter c.copies.mesh c.step.new.self (Collect c.args.vertex) mesh
    (moved_enabled c.copies.mesh (Collect c.args.vertex) (sym c.in_ok-step.ensures.answer ∙ c.in-Moved.is)) c.in_ok-step.ensures.moves

-- the last try changed nothing
last : (c : goal.In_default) → c.step.new.self ≡ c.copies.mesh
last c = grind (arith, idle_stays, idle_from)

pub returns-clause-emptied : goal.returns-clause-emptied
returns-clause-emptied c =
    ap (λ (s : State). s.cores) (last c)
    ∙ collected_there c.args.mesh.now.cores c.copies.mesh.cores c.args.vertex c.copies.invariant.there.0 c.copies.invariant.there.1
    (idle_empty c.copies.mesh c.args.vertex (sym c.in_ok-step.ensures.answer ∙ idle_from c.in_ok-step.field-0 c.in_default.not-Moved))
