-- Lists in ascending order of a number that each item has.
use Rattle.std.proofs.Common.{◌≡◌, ℕ, ◌<◌, List, [], ◌∷◌, refl, sym, arith, inl, inr}
use Rattle.std.specs.List.{Contains, AllPairs}
use Rattle.std.proofs.lemmas.List.Elements.{All-contains}
use Rattle.spin_base.proofs.{Members.Contains-none, Members.Contains-first, Members.Contains-later, Members.Contains-cases, Pairs.AllPairs-head, Pairs.AllPairs-tail}

module _ {X : Type 0} (number : X → ℕ) where
  -- the first of an ascending list is before all others
  pub ascending_first : (z : X) (zs : List X) → AllPairs (λ a b. number a < number b) (z ∷ zs) → (w : X) → Contains zs w → number z < number w
  ascending_first z zs rises w has = All-contains (λ w. number z < number w) zs w (AllPairs-head (λ a b. number a < number b) z zs rises) has

  -- two such lists with the same items have the same first item
  same_first : (x y : X) (xs ys : List X) → AllPairs (λ a b. number a < number b) (x ∷ xs) → AllPairs (λ a b. number a < number b) (y ∷ ys) →
      Contains (y ∷ ys) x → Contains (x ∷ xs) y → x ≡ y
  same_first x y xs ys up also into onto = elim (Contains-cases y ys x into) [
    | inl here ↦ sym here
    | inr later ↦ elim (Contains-cases x xs y onto) [
      | inl here ↦ here
      | inr after ↦ grind (arith, ascending_first y ys also x later, ascending_first x xs up y after)
    ]
  ]

  -- and the same others
  has_after : (x y : X) (xs ys : List X) → x ≡ y → AllPairs (λ a b. number a < number b) (x ∷ xs) → ((z : X) → Contains (x ∷ xs) z → Contains (y ∷ ys) z) →
      (z : X) → Contains xs z → Contains ys z
  has_after x y xs ys same up into z has = grind (arith, Contains-cases y ys z (into z (Contains-later x xs z has)), Contains-later x xs z has, ascending_first x xs up z has)

  -- Two lists in ascending order with the same items are the same list.
  pub same_in_order : (xs ys : List X) → AllPairs (λ a b. number a < number b) xs → AllPairs (λ a b. number a < number b) ys →
      ((x : X) → Contains xs x → Contains ys x) → ((x : X) → Contains ys x → Contains xs x) → xs ≡ ys
  same_in_order [] [] up also into onto = refl
  same_in_order [] (y ∷ ys) up also into onto = absurd (Contains-none y (onto y (Contains-first y ys)))
  same_in_order (x ∷ xs) [] up also into onto = absurd (Contains-none x (into x (Contains-first x xs)))
  same_in_order (x ∷ xs) (y ∷ ys) up also into onto =
      let rises : X → X → Type 0 = λ a b. number a < number b in
      let heads : x ≡ y = same_first x y xs ys up also (into x (Contains-first x xs)) (onto y (Contains-first y ys)) in
      let tails : xs ≡ ys = same_in_order xs ys (AllPairs-tail rises x xs up) (AllPairs-tail rises y ys also)
      (has_after x y xs ys heads up into) (has_after y x ys xs (sym heads) also onto) in
      cc
