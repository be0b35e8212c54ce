-- The row passes where no row between meets it.
use Rattle.cover_merge.proofs.Common.{IsClearOf, Misses, PassesUp, arith, below_more, false, has_row, length, refl, ◌<◌, ◌≡◌}
use Rattle.cover_merge.proofs.Answering.{answers_no, clear_from, fails, missed_from}
use Rattle.cover_merge.proofs.checking.passes_up.Goals as goal

pub returns-then-not-is_clear : goal.returns-then-not-is_clear
returns-then-not-is_clear c =
    let rows = c.args.rows.now in
    let inside : c.loop-r.r < length rows = omega (arith, c.loop-r-test.true, c.requires.place) in
    answers_no (PassesUp rows c.args.places.now c.args.s c.args.p) (λ up.
    fails (has_row c.args.places.now c.loop-r.r ≡ false → Misses (c.index-rows-r.result).block c.index-rows-s.result) c.is_clear.result c.is_clear.ensures c.if-not-is_clear.true
    (missed_from rows c.args.places.now c.args.s c.loop-r.r c.index-rows-s.result c.index-rows-r.result c.requires.within inside c.index-rows-s.is c.index-rows-r.is
    (up c.loop-r.r (omega (arith, c.loop-r.auto.r)) c.loop-r-test.true)))

pub loop-r-preserved : goal.loop-r-preserved
loop-r-preserved c k behind before =
    below_more (λ j. c.args.s < j → IsClearOf c.args.rows.now c.args.places.now c.args.s j) c.loop-r.r (λ j lt after. c.loop-r.invariant j after lt)
    (λ after. clear_from c.args.rows.now c.args.places.now c.args.s c.loop-r.r c.index-rows-s.result c.index-rows-r.result c.requires.within (omega (arith, c.loop-r-test.true, c.requires.place)) c.index-rows-s.is c.index-rows-r.is
    (c.is_clear.ensures.0 c.if-not-is_clear.false)) k before behind

pub returns : goal.returns
returns c = (λ _ k behind before. c.loop-r.invariant k behind (omega arith), λ _. refl)
