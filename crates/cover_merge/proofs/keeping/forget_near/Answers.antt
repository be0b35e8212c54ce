-- One route more is apart from the block, or nothing is kept of it.
use Rattle.cover_merge.proofs.Common.{IsApart, None, arith, get_or_default, length, refl, sym, ◌+◌, ◌<◌, ◌∙◌}
use Rattle.cover_merge.proofs.KeepLemmas.{inside_some, left_more, left_set, none_some}
use Rattle.cover_merge.proofs.keeping.forget_near.Goals as goal

pub loop-c-preserved-then-is_apart : goal.loop-c-preserved-then-is_apart
loop-c-preserved-then-is_apart c =
    let now = c.loop-c.kept.items in
    let i = c.loop-c.c in
    let inside : i < length now = omega (arith, c.loop-c-test.true, c.len-c-end.ensures, c.loop-c.invariant.one_each) in
    left_more (IsApart c.args.merged) c.args.kept.now.items now i c.loop-c.invariant
    (λ it is. c.if-is_apart.ensures it (c.index.ensures ∙ sym (get_or_default now i None _ inside) ∙ is))

pub loop-c-preserved : goal.loop-c-preserved
loop-c-preserved c =
    let now = c.loop-c.kept.items in
    let i = c.loop-c.c in
    let inside : i < length now = omega (arith, c.loop-c-test.true, c.len-c-end.ensures, c.loop-c.invariant.one_each) in
    left_set (λ k it. k < i → IsApart c.args.merged it) (λ k it. k < i + 1 → IsApart c.args.merged it) c.args.kept.now.items now _ i None inside refl c.loop-c.invariant
    (λ k it apart was less. was (omega (arith, less, apart)))
    (λ it is. absurd (none_some it is))

pub returns : goal.returns
returns c = record {
  one_each = c.loop-c.invariant.one_each;
  each = λ k it is.
      let told = c.loop-c.invariant.each k it is in
      (told.0, told.1 (omega (arith, inside_some c.loop-c.kept.items k it is, c.loop-c.invariant.one_each, c.len-c-end.ensures, c.loop-c-test.false)));
}
