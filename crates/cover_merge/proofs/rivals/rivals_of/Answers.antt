-- One row more.
use Rattle.cover_merge.proofs.Common.{AreRivalsAt, List, Rival, ap, arith, get_or, length, length-append, subst, ℕ, ◌+◌, ◌<◌, ◌∙◌, ◌≡◌}
use Rattle.cover_merge.proofs.RivalLemmas.{lists_more, numbered_all}
use Rattle.cover_merge.proofs.rivals.rivals_of.Goals as goal

pub loop-s-preserved : goal.loop-s-preserved
loop-s-preserved c =
    let old = c.loop-s.invariant in record {
      many = ap length c.in_ok-push.ensures.items ∙ length-append c.loop-s.of.items _ ∙ ap (λ m. m + 1) old.many;
      each = lists_more c.args.table.rows.now c.as_slice-numbers.result.now c.loop-s.s c.loop-s.of.items _ _ old.many old.each c.in_ok-push.ensures.items c.in_ok-rivals_among.ensures;
    }

pub returns : goal.returns
returns c =
    let rows = c.args.table.rows.now in
    let serials = c.in_ok-serials.serials in
    let of = c.loop-s.of in
    let all : c.loop-s.s ≡ length rows = omega (arith, c.loop-s-test.false, c.loop-s.auto.s-end) in
    let each = subst (λ l. (k : ℕ) (d : List Rival) → k < c.loop-s.s → AreRivalsAt rows l k (get_or of.items k d)) c.as_slice-numbers.ensures.value c.loop-s.invariant.each in
    numbered_all rows record { serials = serials; of = of; spans = c.in_ok-spans.spans } c.in_ok-serials.ensures.long c.in_ok-serials.ensures.each
    (omega (arith, c.loop-s.invariant.many, all)) (λ k d inside. each k d (omega (arith, inside, all))) c.args.table.few c.args.table.sound c.in_ok-spans.ensures
