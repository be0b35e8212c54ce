use Rattle.mesh_drain.proofs.Common.{arith}
use Rattle.mesh_drain.proofs.{Frame.reached_then, Frame.kept_reached, Packets.few_spots, Senders.moved_of_reached, Senders.one_less_sender, Senders.rest_from, Senders.sender_there, Turns.was_there}
use Rattle.mesh_drain.proofs.draining.drain_from.Goals as goal

pub overflow_cast-vertex : goal.overflow_cast-vertex
overflow_cast-vertex c = grind (arith, few_spots c.args.mesh.now c.requires.kept)

pub send_all-requires : goal.send_all-requires
send_all-requires c = record {
  may = record {
    kept = kept_reached c.args.mesh.now c.loop-vertex.mesh c.requires.kept c.loop-vertex.invariant.reached;
    quiet = c.loop-vertex.invariant.quiet;
  };
  none = c.loop-vertex.invariant.none;
  exists = sender_there c.args.mesh.now c.loop-vertex.mesh c.args.vertices.now c.loop-vertex.vertex-index _ c.requires.alone c.loop-vertex.invariant.reached c.loop-vertex-test.true;
}

pub loop-vertex-preserved : goal.loop-vertex-preserved
loop-vertex-preserved c =
    let kept = kept_reached c.args.mesh.now c.loop-vertex.mesh c.requires.kept c.loop-vertex.invariant.reached in
    let below =
    sender_there c.args.mesh.now c.loop-vertex.mesh c.args.vertices.now c.loop-vertex.vertex-index _ c.requires.alone c.loop-vertex.invariant.reached c.loop-vertex-test.true in
    record {
      reached = reached_then c.args.mesh.now c.loop-vertex.mesh c.send_all.new.mesh c.loop-vertex.invariant.reached c.send_all.ensures.reached;
      quiet = c.in_ok-send_all.ensures.quiet;
      none = c.in_ok-send_all.ensures.none;
      unsent = one_less_sender c.loop-vertex.mesh.unsent c.send_all.new.mesh.unsent c.args.vertices.now c.loop-vertex.vertex-index _ c.loop-vertex-test.true
          (was_there c.loop-vertex.mesh _ kept below) c.in_ok-send_all.ensures.unsent c.loop-vertex.invariant.unsent;
    }

pub returns-clause-at_rest : goal.returns-clause-at_rest
returns-clause-at_rest c =
    rest_from c.args.mesh.now c.loop-vertex.mesh c.args.vertices.now c.loop-vertex.vertex-index c.loop-vertex-test.false c.loop-vertex.invariant.quiet c.loop-vertex.invariant.unsent

pub returns-clause-moved : goal.returns-clause-moved
returns-clause-moved c = moved_of_reached c.args.mesh.now c.loop-vertex.mesh c.loop-vertex.invariant.reached

pub returns-in_err-send_all-clause-moved : goal.returns-in_err-send_all-clause-moved
returns-in_err-send_all-clause-moved c =
    moved_of_reached c.args.mesh.now c.send_all.new.mesh (reached_then c.args.mesh.now c.loop-vertex.mesh c.send_all.new.mesh c.loop-vertex.invariant.reached c.send_all.ensures.reached)
