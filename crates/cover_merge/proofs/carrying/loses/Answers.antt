-- A row of the set behind that meets the row would be a rival at one of the places.
use Rattle.cover_merge.proofs.Common.{arith}
use Rattle.cover_merge.proofs.{PairLemmas.none_lost, RivalLemmas.rivals_read}
use Rattle.cover_merge.proofs.carrying.loses.Goals as goal

pub returns : goal.returns
returns c =
    let list = c.as_slice-list.result.now in
    let are = rivals_read c.args.row.merge.rows.now c.args.rivals.now c.requires c.args.row.s c.index-serial.result.now c.index.result.now list c.args.row.inside
    c.index-serial.ensures c.index.ensures c.as_slice-list.ensures in
    none_lost c.args.row.merge.rows.now c.args.rivals.now.serials.items c.args.row.merge.gaps.places.now c.args.row.s list c.args.row.merge.legal.set.set.in_range are
    (λ n e within. c.loop-k.invariant n e (omega (arith, within, c.loop-k-test.false)))
