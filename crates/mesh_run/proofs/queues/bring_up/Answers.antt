use Rattle.mesh_run.proofs.Common.{IsUp, List, McCopy, ap, arith, length, places_for, subst, sym, ◌+◌, ◌-◌, ◌∙◌, ◌≡◌, ◌≤◌}
use Rattle.mesh_run.proofs.BringingUp.{made_with, may_rise, up_more, all_up}
use Rattle.mesh_run.proofs.queues.bring_up.Goals as goal

pub invariant_of-first : goal.invariant_of-first
invariant_of-first g c = grind arith

pub loop-place-preserved : goal.loop-place-preserved
loop-place-preserved g c =
    let u = c.loop-place.invariant in
    let qs = c.args.queues.now in
    let k = c.loop-place.place in
    let cap = c.args.places.cap in
    let turns = c.args.places.turns in
    let q = c.index-queues-place.result in
    let list = c.in_ok-list.list in
    let e = c.in-Ok.ends in
    let made = c.in-Ok.ensures in
    let is = c.in_ok-list.ensures ∙ c.as_slice.ensures in
    let fits = subst (λ (p : List McCopy). length p ≤ cap) (sym (is ∙ c.index-queues-place.is)) (c.requires k q c.loop-place-test.true) in
    let places = c.for_held-cap.ensures ∙ ap (places_for cap turns) c.len.ensures in
    up_more cap (turns + 1) qs k c.loop-place.rising c.put.new.self q e u c.loop-place-test.true c.index-queues-place.is
    (subst (λ (p : List McCopy). IsUp cap (turns + 1) p e) is (record {
      ends = record { tx = made.sending.0; rx = made.taking.0; empty = made.room.0; spare = subst (λ n. n ≤ e.room.spare) (sym made.cap) made.room.1 };
      holds = made_with cap turns (length list) _ fits (made.cap ∙ places);
      tx_new = made.sending.1;
      rx_new = made.taking.1;
    }))
    (c.put.ensures u.ends (length qs - (k + 1)) (may_rise cap (turns + 1) qs k c.loop-place.rising u c.loop-place-test.true))

pub returns : goal.returns
returns g c =
    let u = c.loop-place.invariant in
    let qs = c.args.queues.now in
    let k = c.loop-place.place in
    let past : length qs ≤ k = c.loop-place-test.false in
    let most : k ≤ length qs = c.loop-place.auto.place-end in
    let all : k ≡ length qs = omega (arith, past, most) in (
      u.ends,
      c.into_standing.ensures u.ends (length qs - k) u.risen,
      all_up c.args.places.cap (c.args.places.turns + 1) qs k c.loop-place.rising u all,
    )
