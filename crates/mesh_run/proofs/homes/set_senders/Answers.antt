use Rattle.mesh_run.proofs.Common.{HaveSenders, answers_none, arith, subst, ℕ, ◌≡◌}
use Rattle.mesh_run.proofs.{FloorLaws.live_below, HomeLaws.output_of, HomeLaws.senders_dead, HomeLaws.senders_live, HomeLaws.senders_more}
use Rattle.mesh_run.proofs.homes.set_senders.Goals as goal

pub loop-number-preserved : goal.loop-number-preserved
loop-number-preserved c = λ table at before.
    let u = c.args.footing.setup.now in
    let live = c.is_live.ensures.0 c.if-not-is_live.false in
    let o = output_of c.loop-number.number c.loop-number-test.true in
    senders_more u table c.args.index c.loop-number.number _ _ o.0 c.loop-number.homes.items c.set_sender.new.homes.items (c.loop-number.invariant table at before) live
    (live_below u c.args.index live) o.1 o.2 (c.place_behind.ensures u o.0 c.args.footing.stands live o.1 o.2) at c.set_sender.ensures

pub returns : goal.returns
returns c = λ table at before.
    let all : c.loop-number.number ≡ 24 = omega arith in
    senders_live c.args.footing.setup.now table c.args.index c.loop-number.homes.items
    (subst (λ (n : ℕ). HaveSenders c.args.footing.setup.now table c.args.index n c.loop-number.homes.items) all (c.loop-number.invariant table at before))

pub returns-then-not-is_live : goal.returns-then-not-is_live
returns-then-not-is_live c = λ table at before.
    senders_dead c.args.footing.setup.now table c.args.index c.args.homes.now.items before
    (λ on. answers_none c.is_live.result (c.is_live.ensures.1 on) c.if-not-is_live.true)
