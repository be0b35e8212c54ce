use Rattle.app_loads.proofs.Common.{arith, is_some', one_less, reached_then, same_Some, sym, there_still, ◌∙◌}
use Rattle.app_loads.proofs.drains.send_all.Goals as goal

pub send_next-requires-clause-can : goal.send_next-requires-clause-can
send_next-requires-clause-can c = record {
  clean = c.packets.invariant.clean;
  there = there_still _ _ _ c.packets.invariant.reached c.requires.there;
  some = λ none. is_some' c.unsent.result.now c.packets-test.ensures (same_Some _ _ (sym c.unsent.ensures ∙ none));
}

pub packets-smaller : goal.packets-smaller
packets-smaller c = grind (arith, one_less, is_some')

pub packets-preserved : goal.packets-preserved
packets-preserved c = record {
  reached = grind (arith, reached_then);
  clean = c.in_ok-last.ensures.clean;
  known = c.in_ok-last.ensures.known;
  last = c.in_ok-last.ensures.last;
  unsent = (one_less c.args.mesh.now.unsent c.packets.mesh.unsent c.send_next.new.mesh.unsent c.args.vertex c.packets.invariant.unsent.0 c.unsent.result.now
      c.packets.invariant.unsent.1 c.unsent.ensures (is_some' c.unsent.result.now c.packets-test.ensures) c.in_ok-last.ensures.unsent).0;
}
