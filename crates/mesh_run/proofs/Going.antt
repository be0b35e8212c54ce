-- A loop that goes over the places of a list, and changes one after the other.
use Rattle.mesh_run.proofs.Common.{List, Some, [], ap, arith, cases_eq, get_or, get_or-set_other, get_or-set_same, get_or_default, inl, inr, length, length-set, refl, same_Some, set, slice_get}
use Rattle.mesh_run.proofs.Common.{slice_get-push_cases, slice_get-set_other, slice_get-set_same, slice_get_there, slice_get_within, subst, suc, sym, ℕ, ◌++◌, ◌+◌, ◌<◌, ◌∙◌, ◌∷◌, ◌≡◌, ◌≢◌, ◌≤◌}

-- What holds of each item of a list and of one more holds of each where that one is put at the end.
pub pushed : {X : Type 0} (P : ℕ → X → Type 0) (xs : List X) (x : X) (new : List X) → new ≡ xs ++ x ∷ [] → ((k : ℕ) (y : X) → slice_get xs k ≡ Some y → P k y) → P (length xs) x →
    (k : ℕ) (y : X) → slice_get new k ≡ Some y → P k y
pushed P xs x new is each last k y at = grind (arith, slice_get-push_cases)

-- what holds of all other items and of one that is set in a place
pub was_set : {X : Type 0} (P : ℕ → X → Type 0) (xs : List X) (n : ℕ) (x : X) → ((k : ℕ) (y : X) → k ≢ n → slice_get xs k ≡ Some y → P k y) → P n x →
    (k : ℕ) (y : X) → slice_get (set xs n x) k ≡ Some y → P k y
was_set P xs n x others new k y at = elim (cases_eq k n) [
  | inl here ↦
      let old = slice_get_there xs n (omega (arith, slice_get_within (set xs n x) k y at, length-set xs n x, here)) in
      subst (P k) (same_Some x y (sym (slice_get-set_same xs n old.0 x old.1) ∙ (ap (slice_get (set xs n x)) (sym here) ∙ at))) (subst (λ j. P j x) (sym here) new)
  | inr other ↦ others k y other (sym (slice_get-set_other xs n k x other) ∙ at)
]

-- what holds of the items before a place and of the one there
pub next_too : {X : Type 0} (P : ℕ → X → Type 0) (xs : List X) (n : ℕ) (x : X) → slice_get xs n ≡ Some x → ((k : ℕ) (y : X) → k < n → slice_get xs k ≡ Some y → P k y) → P n x →
    (k : ℕ) (y : X) → k < n + 1 → slice_get xs k ≡ Some y → P k y
next_too P xs n x stands before here k y less at = grind (arith, cases_eq k n, same_Some)

-- What goes on from item to item of two lists, where what the items at each place have to do with each other is known.
pub each_two : {X Z : Type 0} (R : X → Z → Type 0) (P : List X → List Z → Type 0) → P [] [] → ((x : X) (z : Z) (xs : List X) (zs : List Z) → R x z → P xs zs → P (x ∷ xs) (z ∷ zs)) →
    (xs : List X) (zs : List Z) → length xs ≡ length zs → ((i : ℕ) (x : X) (z : Z) → i < length xs → R (get_or xs i x) (get_or zs i z)) → P xs zs
each_two R P none more [] [] long each = none
each_two R P none more [] (z ∷ zs) long each = absurd (omega (arith, long))
each_two R P none more (x ∷ xs) [] long each = absurd (omega (arith, long))
each_two R P none more (x ∷ xs) (z ∷ zs) long each =
    more x z xs zs (each 0 x z (omega arith)) (each_two R P none more xs zs (omega (arith, long)) (λ i y v below. each (suc i) y v (omega (arith, below))))

module _ {X : Type 0} (R : X → X → Type 0) where
  -- the items before place k are changed, and the others are as they were
  pub record GoneTo (start now : List X) (k : ℕ) : Type 0 where
    pub long : length now ≡ length start
    pub done : (j : ℕ) (d : X) → j < k → j < length start → R (get_or start j d) (get_or now j d)
    pub left : (j : ℕ) (d : X) → k ≤ j → get_or now j d ≡ get_or start j d

  pub gone_none : (start : List X) → GoneTo start start 0
  gone_none start = record { long = refl; done = λ j d before. absurd (omega (arith, before)); left = λ j d from. refl }

  -- one more
  pub gone_more : (start now new : List X) (k : ℕ) (old w : X) → GoneTo start now k → k < length now → old ≡ get_or now k old → new ≡ set now k w →
      R old w → GoneTo start new (k + 1)
  gone_more start now new k old w so_far below read is step = grind (arith, length-set now k w, cases_eq, get_or, get_or_default, get_or-set_same, get_or-set_other)

  pub gone_all : (start now : List X) (k : ℕ) → GoneTo start now k → length now ≤ k → (j : ℕ) (d : X) → j < length start → R (get_or start j d) (get_or now j d)
  gone_all start now k so_far past j d inside = let long = so_far.long in so_far.done j d (omega (arith, past, long, inside)) inside
