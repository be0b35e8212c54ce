-- Lists in an order that is never both ways.
use Rattle.mesh_core.proofs.Common.{All, All-contains, AllPairs, AllPairs-head, AllPairs-tail, Among, Bool, Contains, List, Spot, [], among_contains, among_either, among_gathered_from, ap, arith}
use Rattle.mesh_core.proofs.Common.{cases_order, contains_among, count_by, count_by-cons, false, gathered, if◌then◌else◌, inl, inr, length, refl, spot_eq, spot_eq_same, spot_eq_true, subst, sym, true}
use Rattle.mesh_core.proofs.Common.{ℕ, ◌++◌, ◌+◌, ◌<◌, ◌∙◌, ◌∷◌, ◌≡◌, ◌≢◌, ◌≤◌}
use Rattle.mesh_core.proofs.Counting.{length_covered, counted}

module _ {X : Type 0} (R : X → X → Type 0) where
  -- each item is before all later ones
  abbrev pub Ordered : List X → Type 0
  Ordered [] = Unit {0}
  Ordered (x ∷ xs) = ((y : X) → Among y xs → R x y) × Ordered xs

  pub ordered_append : (xs ys : List X) → Ordered xs → Ordered ys → ((x y : X) → Among x xs → Among y ys → R x y) → Ordered (xs ++ ys)
  ordered_append [] ys a b across = b
  ordered_append (x ∷ xs) ys a b across = (
    λ y there. elim (among_either y xs ys there) [ inl l ↦ a.0 y l | inr r ↦ across x y (inl refl) r ],
    ordered_append xs ys a.1 b (λ z y in_xs in_ys. across z y (inr in_xs) in_ys),
  )

  -- what is made of the items of a list is in order, where it is for each item and from item to item
  pub ordered_gathered : {Z : Type 0} (f : ℕ → Z → List X) (i : ℕ) (zs : List Z) →
      ((j : ℕ) (z : Z) → Ordered (f j z)) →
      ((j k : ℕ) (z w : Z) (a b : X) → j < k → Among a (f j z) → Among b (f k w) → R a b) → Ordered (gathered f i zs)
  ordered_gathered f i [] within across = tt
  ordered_gathered f i (z ∷ zs) within across =
      ordered_append (f i z) (gathered f (i + 1) zs) (within i z) (ordered_gathered f (i + 1) zs within across)
      (λ a b in_a in_b.
      let found = among_gathered_from f b (i + 1) zs in_b in
      across i (i + 1 + found.0) z found.1 a b (omega arith) in_a found.3)

  pub ordered_from : (xs : List X) → AllPairs R xs → Ordered xs
  ordered_from [] pairs = tt
  ordered_from (x ∷ xs) pairs = grind (arith, ordered_from xs (AllPairs-tail R x xs pairs), AllPairs-tail R x xs pairs, AllPairs-head R x xs pairs, All-contains, among_contains)

  -- a test that no two items pass of which one is before the other counts at most one
  pub at_most_one : (p : X → Bool) (xs : List X) → Ordered xs → ((x y : X) → R x y → p x ≡ true → p y ≡ true → ⊥) → count_by p xs ≤ 1
  at_most_one p [] up never = omega arith
  at_most_one p (x ∷ xs) up never =
      subst (λ n. n ≤ 1) (sym (count_by-cons p x xs)) (by_test (p x) refl (at_most_one p xs up.1 never))
    where
      by_test : (b : Bool) → p x ≡ b → count_by p xs ≤ 1 → (if b then 1 else 0) + count_by p xs ≤ 1
      by_test true e few = grind (arith, cases_order, count_by, counted)
      by_test false e few = omega (arith, few)

  module _ (one_way : (x y : X) → R x y → R y x → ⊥) where
    later_still : (x y : X) (xs ys : List X) → x ≡ y → ((z : X) → Among z xs → R x z) → ((z : X) → Among z (x ∷ xs) → Among z (y ∷ ys)) →
        (z : X) → Among z xs → Among z ys
    later_still x y xs ys same up into z a = grind arith

    -- Two lists in order with the same items are the same list.
    pub same_ordered : (xs ys : List X) → Ordered xs → Ordered ys → ((x : X) → Among x xs → Among x ys) → ((x : X) → Among x ys → Among x xs) → xs ≡ ys
    same_ordered [] [] up also into onto = refl
    same_ordered [] (y ∷ ys) up also into onto = absurd (onto y (inl refl))
    same_ordered (x ∷ xs) [] up also into onto = absurd (into x (inl refl))
    same_ordered (x ∷ xs) (y ∷ ys) up also into onto =
        let heads : x ≡ y = elim (into x (inl refl)) [
          | inl here ↦ here
          | inr later ↦ elim (onto y (inl refl)) [
            | inl here ↦ sym here
            | inr after ↦ absurd (one_way x y (up.0 y after) (also.0 x later))
          ]
        ] in
        let tails : xs ≡ ys = same_ordered xs ys up.1 also.1 (later_still x y xs ys heads up.0 into) (later_still y x ys xs (sym heads) also.0 onto) in
        ap (λ z. z ∷ xs) heads ∙ ap (λ zs. y ∷ zs) tails

-- ---- different spots

-- a spot is at most once among different spots
pub one_spot : (xs : List Spot) → AllPairs (λ a b. a ≢ b) xs → (w : Spot) → count_by (λ x. spot_eq x w) xs ≤ 1
one_spot xs different w = at_most_one (λ a b. a ≢ b) (λ x. spot_eq x w) _ (ordered_from (λ a b. a ≢ b) _ different) (λ x y apart px py. apart (spot_eq_true x w px ∙ sym (spot_eq_true y w py)))

-- different spots of a list are at most as many as the list has
pub few_different : (spots ts : List Spot) → AllPairs (λ a b. a ≢ b) ts → All (Contains spots) ts → length ts ≤ length spots
few_different spots ts different within =
    length_covered (λ w x. spot_eq x w) spots ts
    (λ t a. (t, contains_among t spots (All-contains (Contains spots) ts t within (among_contains t ts a)), spot_eq_same t)) (λ w a. one_spot ts different w)
