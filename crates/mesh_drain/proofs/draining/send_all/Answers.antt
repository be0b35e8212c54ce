use Rattle.mesh_drain.proofs.Common.{arith}
use Rattle.mesh_drain.proofs.{Frame.reached_none, Frame.reached_then, Frame.kept_reached, Turns.one_less, Turns.all_sent_there, Turns.as_before, Turns.there_still, Turns.was_there, Turns.is_none}
use Rattle.mesh_drain.proofs.Turns.{is_some'}
use Rattle.mesh_drain.proofs.draining.send_all.Goals as goal

pub packets-init : goal.packets-init
packets-init c = grind (arith, reached_none c.args.mesh.now, as_before c.args.mesh.now c.args.vertex)

pub unsent-requires : goal.unsent-requires
unsent-requires c = there_still c.args.mesh.now c.packets.mesh c.args.vertex c.packets.invariant.reached c.requires.exists

pub send_packet-requires-clause-can : goal.send_packet-requires-clause-can
send_packet-requires-clause-can c = record {
  may = record {
    kept = kept_reached c.args.mesh.now c.packets.mesh c.requires.may.kept c.packets.invariant.reached;
    quiet = c.packets.invariant.quiet;
  };
  none = c.packets.invariant.none;
  exists = there_still c.args.mesh.now c.packets.mesh c.args.vertex c.packets.invariant.reached c.requires.exists;
}

pub packets-smaller : goal.packets-smaller
packets-smaller c = grind (arith, one_less, is_some')

pub packets-preserved : goal.packets-preserved
packets-preserved c = record {
  reached = reached_then c.args.mesh.now c.packets.mesh c.send_packet.new.mesh c.packets.invariant.reached c.send_packet.ensures.reached;
  quiet = c.in_ok-send_packet.ensures.quiet;
  none = c.in_ok-send_packet.ensures.none;
  unsent = (one_less c.args.mesh.now.unsent c.packets.mesh.unsent c.send_packet.new.mesh.unsent c.args.vertex c.packets.invariant.unsent.0 c.unsent.result.now
      c.packets.invariant.unsent.1 c.unsent.ensures (is_some' c.unsent.result.now c.packets-test.ensures) c.in_ok-send_packet.ensures.unsent).0;
}

pub returns-clause-unsent : goal.returns-clause-unsent
returns-clause-unsent c = grind (arith, all_sent_there, was_there, is_none)

pub returns-in_err-send_packet-clause-reached : goal.returns-in_err-send_packet-clause-reached
returns-in_err-send_packet-clause-reached c = grind (arith, reached_then c.args.mesh.now c.packets.mesh c.send_packet.new.mesh c.packets.invariant.reached c.send_packet.ensures.reached)
