-- Equal numbers are equal routes.
use Rattle.cover_merge.proofs.Common.{IsAhead, arith, get_or, subst, ◌≡◌}
use Rattle.cover_merge.proofs.LinkLemmas.{links_made}
use Rattle.cover_merge.proofs.links.links_of.Goals as goal

pub returns : goal.returns
returns c =
    let done : c.loop-k.k ≡ 0 = omega (arith, c.loop-k-test.false) in
    links_made c.args.routes.now c.args.rows.now c.args.numbers.now c.requires.once c.requires.numbers c.loop-k.next.items c.loop-k.heads.items c.loop-k.invariant.one_each c.loop-k.invariant.limit
    (λ n low. subst (λ k. IsAhead c.args.numbers.now k n (get_or c.loop-k.heads.items n 0)) done (c.loop-k.invariant.firsts n (omega (arith, low, c.loop-k.invariant.limit))))
    (λ k inside. c.loop-k.invariant.nexts k (omega (arith, done)) inside)
