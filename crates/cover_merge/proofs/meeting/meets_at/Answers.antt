-- The row stands at the place of its generality or behind it, so the block would have to miss it.
use Rattle.cover_merge.proofs.Common.{Alias, All, Intersects, Row, ap, arith, generality, length, subst, sym, ◌<◌, ◌∙◌}
use Rattle.cover_merge.proofs.Positions.{place_for-reach}
use Rattle.cover_merge.proofs.meeting.meets_at.Goals as goal

pub returns : goal.returns
returns c met passes =
    let rows = c.args.table.rows.now in
    let r = c.args.place.row in
    let a = c.index-rows-r.result in
    let inside : r < length rows = omega (arith, c.if-r-rows.false) in
    let behind = place_for-reach rows c.args.general c.args.table.sound.ordered r a (subst (λ (x : Row). c.args.general < generality x.block) c.index-rows-r.is (c.is_above.ensures met)) in
    c.meets_alias.ensures c.if-not-meets_alias.false (subst (All (λ (x : Alias). ¬ (Intersects c.args.block x.block))) (sym (c.as_slice.ensures ∙ ap (λ (x : Row). x.aliases) c.index-rows-r.is)) (passes r a behind inside))
