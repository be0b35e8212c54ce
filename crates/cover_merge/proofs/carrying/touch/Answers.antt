-- The row at one place more loses none, or changed now, and nothing is kept of its route. The merge misses all other rows.
use Rattle.cover_merge.proofs.Common.{AreStillKept, IsFresh, LosesNone, Times, arith, below_more, cases_eq, cases_lt, get_or, inl, inr, subst, sym, ℕ, ◌+◌, ◌<◌, ◌∙◌, ◌≡◌, ◌⊎◌}
use Rattle.cover_merge.proofs.{KeepLemmas.left_twice, Legal.narrower_misses, Legal.member_lies, Positions.has-place}
use Rattle.cover_merge.proofs.carrying.touch.Goals as goal

pub loop-k-preserved : goal.loop-k-preserved
loop-k-preserved c =
    let old = c.loop-k.invariant in
    let now = c.touch_at.ensures in
    let numbers = c.args.known.now.numbers.items in
    let met = c.args.met.now in
    let k = c.loop-k.k in
    let times = c.touch_at.new.known.times.items in
    let IsDone : ℕ → Times → Type 0 = λ n g. (LosesNone c.args.merge.rows.now c.args.merge.gaps.places.now n) ⊎ (IsFresh c.args.now g) in record {
      known = now.known;
      done = λ j e less. elim (cases_eq (get_or met j 0) (get_or met k 0)) [
        | inl same ↦ subst (λ n. IsDone n (get_or times n e)) (sym same) (now.touched.own e)
        | inr apart ↦ grind (arith, cases_lt j k, get_or met j 0)
      ];
      own = now.times c.index-own.result.now old.own;
      rivals = now.rivals ∙ old.rivals;
      same = grind arith;
      left = left_twice (λ n it. (j : ℕ) → j < k → n ≡ get_or numbers (get_or met j 0) 0 → ⊥) (λ n it. n ≡ get_or numbers (get_or met k 0) 0 → ⊥)
          (λ n it. (j : ℕ) → j < k + 1 → n ≡ get_or numbers (get_or met j 0) 0 → ⊥) c.args.known.now.kept.items c.loop-k.known.kept.items c.touch_at.new.known.kept.items old.left
          (subst (λ l. AreStillKept (λ n it. n ≡ get_or l (get_or met k 0) 0 → ⊥) c.loop-k.known.kept.items c.touch_at.new.known.kept.items) old.same.numbers now.left)
          (λ n it before last. below_more (λ j. n ≡ get_or numbers (get_or met j 0) 0 → ⊥) k before last);
    }

pub returns-clause-touched : goal.returns-clause-touched
returns-clause-touched c s e within =
    let m = c.args.merge in
    elim (c.requires.met.rest s (omega (arith, within, c.loop-k.invariant.known.told.one_each))) [
      | inl missed ↦
          inl (λ r d found behind. narrower_misses m.block (get_or m.rows.now r d).block (get_or m.rows.now s d) (member_lies m.rows.now m.gaps.places.now m.legal.set m.block m.legal.block r d found) (missed d))
      | inr found ↦
          let at = has-place c.args.met.now s found in
          subst (λ n. (LosesNone m.rows.now m.gaps.places.now n) ⊎ (IsFresh c.args.now (get_or c.loop-k.known.times.items n e))) at.2 (c.loop-k.invariant.done at.0 e (omega (arith, at.1, c.loop-k-test.false)))
    ]

pub returns-clause-left : goal.returns-clause-left
returns-clause-left c = record {
  one_each = c.loop-k.invariant.left.one_each;
  each = λ k it is.
      let told = c.loop-k.invariant.left.each k it is in (
        told.0,
        λ s d less within same. elim (c.requires.met.rest s within) [
          | inl missed ↦ missed d
          | inr found ↦ grind (arith, has-place c.args.met.now s found, get_or)
        ],
      );
}
