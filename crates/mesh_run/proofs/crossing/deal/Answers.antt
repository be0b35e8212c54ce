use Rattle.mesh_run.proofs.Common.{Cut, arith, slice_get-get_or}
use Rattle.mesh_run.proofs.CrossingLaws.{dealt_all, dealt_more, end_still, next_link, same_on}
use Rattle.mesh_run.proofs.crossing.deal.Goals as goal

pub take_at-tx-requires : goal.take_at-tx-requires
take_at-tx-requires c =
    let e = next_link c.args.cuts.now c.args.standing.now c.loop-number.standing c.args.shares.now.items c.loop-number.shares.items c.loop-number.number c.loop-number.invariant
    c.loop-number-test.true in
    (e.0.tx, e.1)

pub take_at-rx-requires : goal.take_at-rx-requires
take_at-rx-requires c =
    let e = next_link c.args.cuts.now c.args.standing.now c.loop-number.standing c.args.shares.now.items c.loop-number.shares.items c.loop-number.number c.loop-number.invariant
    c.loop-number-test.true in
    (e.0.rx, e.2)

pub put_end-first-requires : goal.put_end-first-requires
put_end-first-requires c =
    let nothing : Cut = record { queue = 0; sender = 0; receiver = 0 } in
    let at = slice_get-get_or c.args.cuts.now c.loop-number.number nothing c.loop-number-test.true in
    let e = c.requires.cuts.senders c.loop-number.number _ at in
    end_still c.args.shares.now.items c.loop-number.shares.items _ _ e.0 c.loop-number.invariant.same e.1

pub put_end-second-requires : goal.put_end-second-requires
put_end-second-requires c =
    let nothing : Cut = record { queue = 0; sender = 0; receiver = 0 } in
    let at = slice_get-get_or c.args.cuts.now c.loop-number.number nothing c.loop-number-test.true in
    let e = c.requires.cuts.receivers c.loop-number.number _ at in
    end_still c.args.shares.now.items c.put_end-first.new.shares.items _ _ e.0
    (same_on c.args.shares.now.items c.loop-number.shares.items c.put_end-first.new.shares.items c.loop-number.invariant.same c.put_end-first.ensures.put.same) e.1

pub loop-number-preserved : goal.loop-number-preserved
loop-number-preserved c = grind (arith, slice_get-get_or, dealt_more)

pub returns-clause-deals : goal.returns-clause-deals
returns-clause-deals c = λ ends holds.
    (dealt_all c.args.cuts.now c.args.standing.now c.loop-number.standing c.args.shares.now.items c.loop-number.shares.items c.loop-number.number ends c.loop-number.invariant (omega arith) holds).0
