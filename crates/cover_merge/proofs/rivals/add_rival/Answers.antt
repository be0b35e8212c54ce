-- The row comes last where its block meets an alias.
use Rattle.cover_merge.proofs.Common.{arith, get_or, get_or_default, inl, inr, pair_read, refl}
use Rattle.cover_merge.proofs.RivalLemmas.{met_read}
use Rattle.cover_merge.proofs.rivals.add_rival.Goals as goal

pub returns-then-r-s : goal.returns-then-r-s
returns-then-r-s c = inl (λ less. absurd (omega (arith, less, c.if-r-s.true)), refl)

pub returns-then-is_missed : goal.returns-then-is_missed
returns-then-is_missed c = grind (arith, pair_read, get_or, get_or_default)

pub returns : goal.returns
returns c =
    let a = c.index-rows-r-2 in
    inr (
      omega (arith, c.if-r-s.false),
      c.rival_of.result,
      (grind (arith, get_or_default)),
      met_read c.args.row.rows.now c.args.row.s c.args.r c.index-rows-s.result c.index-rows-r.result c.is_missed.result c.args.row.inside c.requires c.index-rows-s.is
          c.is_missed.ensures c.if-is_missed.false,
      c.in_ok-push.ensures.ok,
    )
