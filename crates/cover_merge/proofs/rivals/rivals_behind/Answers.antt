-- One row more.
use Rattle.cover_merge.proofs.Common.{All-nil, arith, cases_lt, inl, inr, ◌+◌, ◌<◌}
use Rattle.cover_merge.proofs.{Lists.AllPairs-nil, RivalLemmas.rivals_all, RivalLemmas.rivals_turn}
use Rattle.cover_merge.proofs.rivals.rivals_behind.Goals as goal

pub loop-r-init : goal.loop-r-init
loop-r-init c = grind (arith, AllPairs-nil, All-nil)

pub loop-r-preserved : goal.loop-r-preserved
loop-r-preserved c =
    let r = c.loop-r.r in
    rivals_turn (λ k. k < r) (λ k. k < r + 1) r (λ k less. omega (arith, less)) (λ k less. elim (cases_lt k r) [ inl before ↦ inl before | inr from ↦ inr (omega (arith, less, from)) ])
    (omega arith) (λ k less. less)
    c.args.row.rows.now c.args.row.serials.now c.args.row.s c.loop-r.list c.add_rival.new.list c.args.row.sound.ordered c.loop-r.invariant c.in_ok-add_rival.ensures

pub returns : goal.returns
returns c = rivals_all (λ k. k < c.loop-r.r) c.args.row.rows.now c.args.row.serials.now c.args.row.s c.loop-r.list
    (λ k after inside. inl (omega (arith, inside, c.loop-r-test.false))) c.loop-r.invariant
