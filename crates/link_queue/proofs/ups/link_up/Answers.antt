use Rattle.std.proofs.Common.{arith, sym}
use Rattle.link_queue.proofs.StepLemmas.{places, seats, sees_full}
use Rattle.link_queue.proofs.ups.link_up.Goals as goal

pub push_as-requires-clause-rule : goal.push_as-requires-clause-rule
push_as-requires-clause-rule g c =
    let p = c.loop-copy.invariant.1 in
    (places _ _ _ _ p.sends (sym p.cap_is) p.start.sent p.start.nones, sees_full _ _ p.sends)

pub another-taker-requires-clause-rule : goal.another-taker-requires-clause-rule
another-taker-requires-clause-rule g c = grind (arith, seats)
