-- One place more does not fail.
use Rattle.cover_merge.proofs.Common.{PassesUp, arith, below_more, get_or, place_for}
use Rattle.cover_merge.proofs.RefineLemmas.{none_fails}
use Rattle.cover_merge.proofs.refining.all_pass.Goals as goal

pub loop-k-preserved : goal.loop-k-preserved
loop-k-preserved c =
    let rows = c.args.route.table.rows.now in
    let xs = c.args.route.places.now in
    below_more (λ n. PassesUp rows xs (get_or xs n 0) (place_for rows c.args.general)) c.loop-k.k c.loop-k.invariant (c.passes_at.ensures.0 c.if-not-passes_at.false)

pub returns : goal.returns
returns c passed = none_fails c.args.route.table.rows.now c.args.route.places.now (place_for c.args.route.table.rows.now c.args.general) 0 (omega arith) (λ k from within. c.loop-k.invariant k (omega (arith, within, c.loop-k-test.false)))
