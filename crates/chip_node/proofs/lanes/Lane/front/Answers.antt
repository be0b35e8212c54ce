use Rattle.chip_node.proofs.Common.{IfSome, List, McCopy, Option, [], arith, refl, slice_get, subst, sym, take_rest, ◌∷◌, ◌≡◌}
use Rattle.chip_node.proofs.lanes.Lane.front.Goals as goal

first_of : (ys : List McCopy) (r : Option McCopy) → r ≡ slice_get ys 0 → IfSome r (λ k. (rest : List McCopy) × (ys ≡ k ∷ rest))
first_of [] r e = subst (λ (o : Option McCopy). IfSome o (λ k. (rest : List McCopy) × ([] ≡ k ∷ rest))) (sym e) tt
first_of (y ∷ ys) r e = subst (λ (o : Option McCopy). IfSome o (λ k. (rest : List McCopy) × (y ∷ ys ≡ k ∷ rest))) (sym e) (ys, refl)

pub returns-clause-first : goal.returns-clause-first
returns-clause-first c = grind (arith, take_rest (c.deref.result.now) (c.self.inside.left), first_of)
