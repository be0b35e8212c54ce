use Rattle.mesh_run.proofs.Common.{Cut, End, Sends, Some, Takes, ap, get_or, refl, rules, same_Some, set, slice_get-get_or, sym, ◌∙◌, ◌≡◌}
use Rattle.mesh_run.proofs.CrossingLaws.{collected_all, collected_more, next_laid}
use Rattle.mesh_run.proofs.crossing.collect.Goals as goal

pub put_end-out-requires : goal.put_end-out-requires
put_end-out-requires c =
    let nothing : Cut = record { queue = 0; sender = 0; receiver = 0 } in
    let at = slice_get-get_or c.args.cuts.now c.loop-number.number nothing c.loop-number-test.true in
    let cut : Cut = get_or c.args.cuts.now c.loop-number.number nothing in
    let laid = next_laid c.args.cuts.now c.args.standing.now c.loop-number.standing c.args.shares.now.items c.loop-number.shares.items c.loop-number.number cut c.loop-number.invariant
    c.requires.cuts c.requires.laid at in
    let end : End = Sends (record { link = c.loop-number.number; tx = laid.0.tx }) in
    (end, laid.1)

pub put_end-into-requires : goal.put_end-into-requires
put_end-into-requires c =
    let nothing : Cut = record { queue = 0; sender = 0; receiver = 0 } in
    let at = slice_get-get_or c.args.cuts.now c.loop-number.number nothing c.loop-number-test.true in
    let cut : Cut = get_or c.args.cuts.now c.loop-number.number nothing in
    let laid = next_laid c.args.cuts.now c.args.standing.now c.loop-number.standing c.args.shares.now.items c.loop-number.shares.items c.loop-number.number cut c.loop-number.invariant
    c.requires.cuts c.requires.laid at in
    let end : End = Takes (record { link = c.loop-number.number; rx = laid.0.rx }) in
    (end, c.put_end-out.ensures.put.others cut.receiver cut.queue (λ same. c.requires.cuts.two c.loop-number.number cut at (sym same.0)) ∙ laid.2)

pub loop-number-preserved : goal.loop-number-preserved
loop-number-preserved c =
    let nothing : Cut = record { queue = 0; sender = 0; receiver = 0 } in
    let at = slice_get-get_or c.args.cuts.now c.loop-number.number nothing c.loop-number-test.true in
    let cut : Cut = get_or c.args.cuts.now c.loop-number.number nothing in
    let laid = next_laid c.args.cuts.now c.args.standing.now c.loop-number.standing c.args.shares.now.items c.loop-number.shares.items c.loop-number.number cut c.loop-number.invariant
    c.requires.cuts c.requires.laid at in
    let out : End = Sends (record { link = c.loop-number.number; tx = laid.0.tx }) in
    let into : End = Takes (record { link = c.loop-number.number; rx = laid.0.rx }) in
    let stands = c.put_end-out.ensures.put.others cut.receiver cut.queue (λ same. c.requires.cuts.two c.loop-number.number cut at (sym same.0)) ∙ laid.2 in
    let tx : c.sender_of-tx.result ≡ Some laid.0.tx = c.sender_of-tx.ensures (record { link = c.loop-number.number; tx = laid.0.tx })
    (same_Some c.put_end-out.result out (sym c.put_end-out.ensures.stood ∙ laid.1)) in
    let rx : c.receiver_of-rx.result ≡ Some laid.0.rx = c.receiver_of-rx.ensures (record { link = c.loop-number.number; rx = laid.0.rx })
    (same_Some c.put_end-into.result into (sym c.put_end-into.ensures.stood ∙ stands)) in
    collected_more c.args.cuts.now c.args.standing.now c.loop-number.standing _ c.args.shares.now.items c.loop-number.shares.items c.put_end-out.new.shares.items
    c.put_end-into.new.shares.items c.loop-number.number cut laid.0.tx laid.0.rx c.requires.cuts c.loop-number.invariant at laid.0.sends laid.0.takes refl refl
    (ap (set c.loop-number.standing.txs.items c.loop-number.number) tx) (ap (set c.loop-number.standing.rxs.items c.loop-number.number) rx)
    c.put_end-out.ensures.put c.put_end-into.ensures.put

pub returns : goal.returns
returns c = search (rules, collected_all)
