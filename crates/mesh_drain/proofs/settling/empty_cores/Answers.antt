use Rattle.mesh_drain.proofs.Common.{List, Setup, Spot, ap, arith, length, subst, sym, ◌<◌, ◌∙◌, ◌≤◌}
use Rattle.mesh_drain.proofs.{Frame.reached_none, Frame.reached_then, Frame.setup_reached, Moving.after_reached, Moving.mesh_after, Packets.few_in_mesh, Turns.there_still, Vertices.same_besides}
use Rattle.mesh_drain.proofs.Vertices.{same_then, one_more_collected, all_collected}
use Rattle.mesh_drain.proofs.settling.empty_cores.Goals as goal

pub loop-vertex-init : goal.loop-vertex-init
loop-vertex-init c = record { reached = reached_none c.args.mesh.now; others = same_besides c.args.mesh.now; before = λ i none. absurd (omega (arith, none)) }

pub overflow_cast-vertex : goal.overflow_cast-vertex
overflow_cast-vertex c = grind (arith, few_in_mesh c.args.mesh.now c.every_mesh_is_one.ensures)

pub loop-vertex-preserved : goal.loop-vertex-preserved
loop-vertex-preserved c =
    let mesh = mesh_after c.args.mesh.now c.loop-vertex.mesh c.every_mesh_is_one.ensures (after_reached c.args.mesh.now c.loop-vertex.mesh c.loop-vertex.invariant.reached) in
    let below = there_still c.args.mesh.now c.loop-vertex.mesh c.loop-vertex.vertex c.loop-vertex.invariant.reached
    (subst (λ l. c.loop-vertex.vertex < length l) c.spots-vertices.ensures c.loop-vertex-test.true) in
    record {
      reached = reached_then c.args.mesh.now c.loop-vertex.mesh c.empty_core.new.mesh c.loop-vertex.invariant.reached c.empty_core.ensures.reached;
      others = same_then c.args.mesh.now c.loop-vertex.mesh c.empty_core.new.mesh c.loop-vertex.invariant.others c.empty_core.ensures.others;
      before = one_more_collected c.loop-vertex.mesh c.empty_core.new.mesh c.loop-vertex.vertex mesh below c.in_ok-empty_core.ensures.emptied c.loop-vertex.invariant.before;
    }

pub returns-clause-collected : goal.returns-clause-collected
returns-clause-collected c =
    let mesh = mesh_after c.args.mesh.now c.loop-vertex.mesh c.every_mesh_is_one.ensures (after_reached c.args.mesh.now c.loop-vertex.mesh c.loop-vertex.invariant.reached) in
    let kept = ap (λ (u : Setup). u.spots) (setup_reached c.args.mesh.now c.loop-vertex.mesh c.loop-vertex.invariant.reached) in
    all_collected c.loop-vertex.mesh c.loop-vertex.vertex mesh
    (subst (λ (l : List Spot). length l ≤ c.loop-vertex.vertex) (c.spots-vertices.ensures ∙ sym kept) c.loop-vertex-test.false) c.loop-vertex.invariant.before

pub returns-in_err-empty_core-clause-reached : goal.returns-in_err-empty_core-clause-reached
returns-in_err-empty_core-clause-reached c = grind (arith, reached_then c.args.mesh.now c.loop-vertex.mesh c.empty_core.new.mesh c.loop-vertex.invariant.reached c.empty_core.ensures.reached)

pub returns-in_err-empty_core-clause-others : goal.returns-in_err-empty_core-clause-others
returns-in_err-empty_core-clause-others c = grind (arith, same_then c.args.mesh.now c.loop-vertex.mesh c.empty_core.new.mesh c.loop-vertex.invariant.others c.empty_core.ensures.others)
