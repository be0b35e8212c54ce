-- One item more is spelled.
use Rattle.std.proofs.Common.{arith, ◌≡◌, ℕ, List, [], ◌∷◌, ◌++◌, append_assoc}
use Rattle.std.specs.List.{flat_map}
use Rattle.std.proofs.lemmas.List.{flat_map_more}

pub spelled_more : {X : Type 0} (f : X → List ℕ) (old pre : List ℕ) (xs ys : List X) (x : X) (bytes new : List ℕ)
    → bytes ≡ old ++ (pre ++ flat_map f xs) → new ≡ bytes ++ f x → ys ≡ xs ++ x ∷ [] → new ≡ old ++ (pre ++ flat_map f ys)
spelled_more f old pre xs ys x bytes new before step more = grind (arith, append_assoc, flat_map_more)
