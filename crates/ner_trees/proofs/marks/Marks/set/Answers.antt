use Rattle.ner_trees.proofs.Common.{AreAllOn, AreOn, [], length-set, set, subst, sym, true, ℕ, ◌++◌, ◌∙◌, ◌∷◌}
use Rattle.ner_trees.proofs.Growing.{one_all_listed, one_listed}
use Rattle.ner_trees.proofs.marks.Marks.set.Goals as goal

pub invariant_of-self : goal.invariant_of-self
invariant_of-self c =
    let s = c.args.self.now in
    record {
      size = s.size;
      long = s.long;
      listed = subst (AreOn s.machine.now s.items.items) (sym c.in_err-push.ensures.items) s.listed;
      all_listed = subst (AreAllOn s.machine.now s.items.items) (sym c.in_err-push.ensures.items) s.all_listed;
    }

pub invariant_of-self-2 : goal.invariant_of-self-2
invariant_of-self-2 c =
    let s = c.args.self.now in
    let m = s.machine.now in
    let place : ℕ = c.index-place.result in
    record {
      size = s.size;
      long = length-set s.items.items place true ∙ s.long;
      listed =
          subst (AreOn m (set s.items.items place true)) (sym c.in_ok-push.ensures.items)
          (subst (λ (i : ℕ). AreOn m (set s.items.items i true) (s.chips.items ++ c.args.chip ∷ [])) (sym c.index-place.ensures.value)
          (one_listed m s.items.items s.chips.items c.args.chip c.requires s.long s.listed));
      all_listed =
          subst (AreAllOn m (set s.items.items place true)) (sym c.in_ok-push.ensures.items)
          (subst (λ (i : ℕ). AreAllOn m (set s.items.items i true) (s.chips.items ++ c.args.chip ∷ [])) (sym c.index-place.ensures.value)
          (one_all_listed m s.items.items s.chips.items c.args.chip c.requires s.all_listed));
    }
