use Rattle.mesh_drain.proofs.Common.{ap, arith, length, subst, ◌<◌, ◌≤◌}
use Rattle.mesh_drain.proofs.{Frame.reached_then, Frame.kept_reached, Packets.few_spots, Turns.there_still, Turns.was_there, Turns.one_vertex_more, Turns.at_rest}
use Rattle.mesh_drain.proofs.draining.send_each.Goals as goal

pub overflow_cast-vertex : goal.overflow_cast-vertex
overflow_cast-vertex c = omega (arith, few_spots c.args.mesh.now c.requires.kept, ap length c.spots-count.ensures, c.loop-vertex-test.true)

pub send_all-requires : goal.send_all-requires
send_all-requires c = record {
  may = record {
    kept = kept_reached c.args.mesh.now c.loop-vertex.mesh c.requires.kept c.loop-vertex.invariant.reached;
    quiet = c.loop-vertex.invariant.quiet;
  };
  none = c.loop-vertex.invariant.none;
  exists = there_still c.args.mesh.now c.loop-vertex.mesh c.loop-vertex.vertex c.loop-vertex.invariant.reached
      (subst (λ l. c.loop-vertex.vertex < length l) c.spots-count.ensures c.loop-vertex-test.true);
}

pub loop-vertex-preserved : goal.loop-vertex-preserved
loop-vertex-preserved c =
    let kept = kept_reached c.args.mesh.now c.loop-vertex.mesh c.requires.kept c.loop-vertex.invariant.reached in
    let below = there_still c.args.mesh.now c.loop-vertex.mesh c.loop-vertex.vertex c.loop-vertex.invariant.reached
    (subst (λ l. c.loop-vertex.vertex < length l) c.spots-count.ensures c.loop-vertex-test.true) in
    record {
      reached = reached_then c.args.mesh.now c.loop-vertex.mesh c.send_all.new.mesh c.loop-vertex.invariant.reached c.send_all.ensures.reached;
      quiet = c.in_ok-send_all.ensures.quiet;
      none = c.in_ok-send_all.ensures.none;
      sent = one_vertex_more c.loop-vertex.mesh.unsent c.send_all.new.mesh.unsent c.loop-vertex.vertex
          (was_there c.loop-vertex.mesh c.loop-vertex.vertex kept below) c.in_ok-send_all.ensures.unsent c.loop-vertex.invariant.sent;
    }

pub returns-clause-at_rest : goal.returns-clause-at_rest
returns-clause-at_rest c =
    at_rest c.args.mesh.now c.loop-vertex.mesh c.loop-vertex.vertex c.requires.kept c.loop-vertex.invariant.reached c.loop-vertex.invariant.quiet
    (subst (λ l. length l ≤ c.loop-vertex.vertex) c.spots-count.ensures c.loop-vertex-test.false) c.loop-vertex.invariant.sent

pub returns-in_err-send_all-clause-reached : goal.returns-in_err-send_all-clause-reached
returns-in_err-send_all-clause-reached c = grind (arith, reached_then c.args.mesh.now c.loop-vertex.mesh c.send_all.new.mesh c.loop-vertex.invariant.reached c.send_all.ensures.reached)
