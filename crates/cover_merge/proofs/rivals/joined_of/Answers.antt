-- One row more.
use Rattle.cover_merge.proofs.Common.{AreJoined, IsOriginal, Row, ap, get_or, get_or_default, subst, sym, ℕ, ⊤, ◌+◌, ◌∙◌}
use Rattle.cover_merge.proofs.{Positions.those_more, Positions.those_next, rivals.joined_of.Goals.then-not-is_original+in_ok-push, rivals.joined_of.Goals.else-not-is_original}
use Rattle.cover_merge.proofs.rivals.joined_of.Goals as goal

pub loop-s-preserved : goal.loop-s-preserved
loop-s-preserved c =
    let rows = c.args.rows.now in
    let s = c.loop-s.s in
    let Q : ℕ → Type 0 = λ k. (d : Row) → IsOriginal (get_or rows k d) in
    elim c.if-not-is_original.branch [
      | then-not-is_original+in_ok-push w ↦
          subst (AreJoined rows (s + 1)) (sym (ap (λ v. v.items) w.joined-is ∙ w.in_ok-push.ensures.items)) (those_more (λ k. ⊤) Q s c.loop-s.joined.items c.loop-s.invariant tt)
      | else-not-is_original w ↦
          subst (AreJoined rows (s + 1)) (sym (ap (λ v. v.items) w.joined-is)) (those_next (λ k. ⊤) Q s c.loop-s.joined.items c.loop-s.invariant
          (λ d. subst IsOriginal (c.index-rows-s.is ∙ get_or_default rows s c.index-rows-s.result d c.loop-s-test.true) (c.is_original.ensures w.if-not-is_original.false)))
    ]
