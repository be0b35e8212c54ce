use Rattle.range_store.proofs.Common.{IsLeastIn, arith, subst, sym}
use Rattle.range_store.proofs.RunLemmas.{least_in, none_in}
use Rattle.range_store.proofs.cuts.fit_in.Goals as goal

pub returns-then-claim-left-clause-least : goal.returns-then-claim-left-clause-least
returns-then-claim-left-clause-least c =
    let e = sym c.in_ok-place.ensures.1 in
    subst (IsLeastIn c.args.hole.now c.args.claim.from c.args.claim.size c.args.claim.align) e
    (least_in c.args.hole.now c.args.claim.from c.max-low.result c.args.claim.size c.args.claim.align c.max-low.ensures c.args.claim.step (omega (arith, e)) (omega (arith, e)))

pub returns-else-claim-left-clause-none : goal.returns-else-claim-left-clause-none
returns-else-claim-left-clause-none c =
    let e = sym c.in_ok-place.ensures.1 in
    none_in c.args.hole.now c.args.claim.from c.max-low.result c.args.claim.size c.args.claim.align c.max-low.ensures c.args.claim.some c.args.claim.step (omega (arith, e))
