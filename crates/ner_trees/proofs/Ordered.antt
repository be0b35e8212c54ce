-- Lists in an order in which no two items are each before the other.
use Rattle.ner_trees.proofs.Common.{All-contains, AllPairs, AllPairs-head, AllPairs-tail, Contains, Contains-cases, Contains-first, Contains-later, Contains-none, List, [], arith, inl, inr, refl, sym}
use Rattle.ner_trees.proofs.Common.{◌∷◌, ◌≡◌}

module _ {X : Type 0} (R : X → X → Type 0) (apart : (a b : X) → R a b → R b a → ⊥) where
  -- the first of a list in order is before all others
  before_later : (z : X) (zs : List X) → AllPairs R (z ∷ zs) → (w : X) → Contains zs w → R z w
  before_later z zs up w has = All-contains (R z) zs w (AllPairs-head R z zs up) has

  -- two such lists with the same items have the same first item
  same_head : (x y : X) (xs ys : List X) → AllPairs R (x ∷ xs) → AllPairs R (y ∷ ys) → Contains (y ∷ ys) x → Contains (x ∷ xs) y → x ≡ y
  same_head x y xs ys up also into onto = elim (Contains-cases y ys x into) [
    | inl here ↦ sym here
    | inr later ↦ elim (Contains-cases x xs y onto) [
      | inl here ↦ here
      | inr after ↦ absurd (apart x y (before_later x xs up y after) (before_later y ys also x later))
    ]
  ]

  -- and the same others
  has_after : (x y : X) (xs ys : List X) → x ≡ y → AllPairs R (x ∷ xs) → ((z : X) → Contains (x ∷ xs) z → Contains (y ∷ ys) z) → (z : X) → Contains xs z → Contains ys z
  has_after x y xs ys same up into z has = grind (arith, Contains-cases y ys z (into z (Contains-later x xs z has)), Contains-later x xs z has, before_later x xs up z has)

  -- Two lists in such an order with the same items are the same list.
  pub same_list : (xs ys : List X) → AllPairs R xs → AllPairs R ys → ((x : X) → Contains xs x → Contains ys x) → ((x : X) → Contains ys x → Contains xs x) → xs ≡ ys
  same_list [] [] up also into onto = refl
  same_list [] (y ∷ ys) up also into onto = absurd (Contains-none y (onto y (Contains-first y ys)))
  same_list (x ∷ xs) [] up also into onto = absurd (Contains-none x (into x (Contains-first x xs)))
  same_list (x ∷ xs) (y ∷ ys) up also into onto =
      let heads : x ≡ y = same_head x y xs ys up also (into x (Contains-first x xs)) (onto y (Contains-first y ys)) in
      let tails : xs ≡ ys = same_list xs ys (AllPairs-tail R x xs up) (AllPairs-tail R y ys also) (has_after x y xs ys heads up into) (has_after y x ys xs (sym heads) also onto) in
      cc
