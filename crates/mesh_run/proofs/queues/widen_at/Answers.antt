use Rattle.mesh_run.proofs.Common.{IsRx, IsTx, Link, Rx, Tx, ap, arith, sending, subst, sym, ◌∙◌}
use Rattle.mesh_run.proofs.Resting.{held_short, lent_inside, lent_link, put_again, rest_count, rest_inside, rest_places, rest_sent, rest_stands, rest_took, rest_wide, rest_within, widened_up}
use Rattle.mesh_run.proofs.queues.widen_at.Goals as goal

pub index-requires : goal.index-requires
index-requires g c = grind (arith, rest_inside (c.requires).3 (c.rest_at-held.ensures (c.requires).0 (c.requires).1 (c.requires).2 (c.requires).3))

pub returns-then-places-free_places-clause-wide : goal.returns-then-places-free_places-clause-wide
returns-then-places-free_places-clause-wide g c = λ ends old holds at up.
    let r = c.rest_at-held.ensures ends old holds at in
    rest_wide at r up (rest_places at r c.index.ensures c.places-has.ensures) c.free_places.ensures c.if-places-free_places.true

pub take_ends-tx-requires : goal.take_ends-tx-requires
take_ends-tx-requires g c =
    let u = c.requires in
    let r = c.rest_at-held.ensures u.0 u.1 u.2 u.3 in
    (_, r.now, r.holds, rest_stands u.3 r)

pub index-requires-2 : goal.index-requires-2
index-requires-2 g c =
    let u = c.requires in
    let r = c.rest_at-held.ensures u.0 u.1 u.2 u.3 in
    let inside = lent_inside u.3 r (c.take_ends-tx.ensures.left _ r.holds) in
    omega (arith, inside, c.take_ends-tx.new.self.links.ok.0)

pub invariant_of-resting : goal.invariant_of-resting
invariant_of-resting g c =
    let u = c.requires in
    let r = c.rest_at-held.ensures u.0 u.1 u.2 u.3 in
    let taken = c.take_ends-tx.ensures.ends _ r.now r.holds (rest_stands u.3 r) in
    let link = lent_link u.3 r (c.take_ends-tx.ensures.left _ r.holds) c.index-2.ensures in
    record {
      sends = subst (λ (l : Link). IsTx l c.take_ends-tx.result.0) (sym link) (subst (λ (x : Tx). IsTx r.now.link x) (sym taken.0) r.ends_are.tx);
      takes = subst (λ (l : Link). IsRx l c.take_ends-tx.result.1) (sym link) (subst (λ (x : Rx). IsRx r.now.link x) (sym taken.1) r.ends_are.rx);
      sent = rest_sent u.3 r taken.0;
      took = rest_took u.3 r taken.0 taken.1;
      counts = rest_count u.3 r taken.0;
    }

pub widened-requires : goal.widened-requires
widened-requires g c = grind (arith, held_short (c.requires).3 (c.rest_at-held.ensures (c.requires).0 (c.requires).1 (c.requires).2 (c.requires).3) (c.requires).4)

pub set-requires : goal.set-requires
set-requires g c = grind (arith, rest_within (c.requires).3 (c.rest_at-held.ensures (c.requires).0 (c.requires).1 (c.requires).2 (c.requires).3))

pub put_ends-requires : goal.put_ends-requires
put_ends-requires g c = grind (arith, rest_within (c.requires).3 (c.rest_at-held.ensures (c.requires).0 (c.requires).1 (c.requires).2 (c.requires).3))

pub returns-in-Ok-clause-wide : goal.returns-in-Ok-clause-wide
returns-in-Ok-clause-wide g c = λ ends old holds at up.
    let r = c.rest_at-held.ensures ends old holds at in
    let taken = c.take_ends-tx.ensures.ends _ r.now r.holds (rest_stands at r) in
    let made = c.in-Ok.ensures in
    widened_up at r up c.args.places.turns (ap (λ (x : Tx). (sending x).first) taken.0) c.for_held-wider.ensures made.sending made.taking made.cap made.room
    (c.set.ensures _ (c.take_ends-tx.ensures.left _ r.holds))

pub returns-in-Err-clause-back : goal.returns-in-Err-clause-back
returns-in-Err-clause-back g c = λ ends old holds at up.
    let r = c.rest_at-held.ensures ends old holds at in
    let stands = rest_stands at r in
    let taken = c.take_ends-tx.ensures.ends _ r.now r.holds stands in
    let back = c.in-Err.ensures.back in
    put_again at r up (back.0 ∙ taken.0) (back.1 ∙ taken.1) (c.put_ends.ensures _ r.now (c.take_ends-tx.ensures.left _ r.holds) stands)
