-- Lists made of the items of a list.
use Rattle.std.specs.Prelude.{ℕ, ◌+◌, List, [], ◌∷◌, ◌++◌}

-- what is made of each item of a list and its place, from a first place on, one after the other
abbrev pub gathered : {X Y : Type 0} → (ℕ → X → List Y) → ℕ → List X → List Y
gathered f i [] = []
gathered f i (x ∷ xs) = f i x ++ gathered f (i + 1) xs
