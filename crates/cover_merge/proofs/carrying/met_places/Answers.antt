-- One row more is met, or is not.
use Rattle.cover_merge.proofs.Common.{AreThose, Misses, Row, ap, arith, get_or, get_or_default, length, subst, sym, ℕ, ◌+◌, ◌<◌, ◌∙◌, ◌≡◌}
use Rattle.cover_merge.proofs.{Answering.fails, Positions.those_more, Positions.those_next, Positions.those_stay, PutInLemmas.missed_behind, carrying.met_places.Goals.then-not-is_missed+in_ok-push}
use Rattle.cover_merge.proofs.carrying.met_places.Goals.{else-not-is_missed}
use Rattle.cover_merge.proofs.carrying.met_places.Goals as goal

pub loop-s-preserved : goal.loop-s-preserved
loop-s-preserved c =
    let block = c.args.merge.block in
    let rows = c.args.merge.rows.now in
    let s = c.loop-s.s in
    let met = c.loop-s.met.items in
    let P : ℕ → Type 0 = λ k. (d : Row) → Misses block (get_or rows k d) → ⊥ in
    let Q : ℕ → Type 0 = λ k. (d : Row) → Misses block (get_or rows k d) in
    let within : s < length rows = omega (arith, c.loop-s-test.true, c.args.merge.within) in
    let read : (d : Row) → c.index-rows-s.result ≡ get_or rows s d = λ d. c.index-rows-s.is ∙ get_or_default rows s c.index-rows-s.result d within in
    elim c.if-not-is_missed.branch [
      | then-not-is_missed+in_ok-push w ↦
          subst (AreThose P Q (s + 1)) (sym (ap (λ v. v.items) w.met-is ∙ w.in_ok-push.ensures.items)) (those_more P Q s met c.loop-s.invariant (λ d missed.
          fails (Misses block c.index-rows-s.result) c.is_missed.result c.is_missed.ensures w.if-not-is_missed.true (subst (Misses block) (sym (read d)) missed)))
      | else-not-is_missed w ↦
          subst (AreThose P Q (s + 1)) (sym (ap (λ v. v.items) w.met-is))
          (those_next P Q s met c.loop-s.invariant (λ d. subst (Misses block) (read d) (c.is_missed.ensures.0 w.if-not-is_missed.false)))
    ]

pub returns : goal.returns
returns c =
    let m = c.args.merge in
    let Q : ℕ → Type 0 = λ k. (d : Row) → Misses m.block (get_or m.rows.now k d) in
    those_stay (λ k. (d : Row) → Misses m.block (get_or m.rows.now k d) → ⊥) Q c.loop-s.s c.loop-s.met.items c.loop-s.invariant (length m.rows.now) (omega (arith, c.loop-s.auto.s-end, m.within))
    (λ s from less d. missed_behind m.rows.now m.gaps.places.now m.block m.gaps.place m.sound m.legal m.place_is s d (omega (arith, from, c.loop-s-test.false)) less)
