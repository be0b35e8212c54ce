-- Places of names in a list to which one is added.
use Rattle.job_readers.proofs.Common.{Bool, List, None, Option, Some, [], ap, arith, bytes_eq, bytes_eq-Decides, cond, false, if◌then◌else◌, is_some, length, name_place_in, option_map, refl, suc}
use Rattle.job_readers.proofs.Common.{true, ℕ, ◌++◌, ◌+◌, ◌<◌, ◌∷◌, ◌≡◌}

-- the first of two places
abbrev pub or_else : Option ℕ → Option ℕ → Option ℕ
or_else (Some i) p = Some i
or_else None p = p

or_else-map : (f : ℕ → ℕ) (o p : Option ℕ) → option_map f (or_else o p) ≡ or_else (option_map f o) (option_map f p)
or_else-map f None p = refl
or_else-map f (Some i) p = refl

last-more : (b : Bool) (n : ℕ) → option_map (λ i. i + 1) (if b then Some n else None) ≡ (if b then Some (suc n) else None)
last-more true n = ap Some (omega arith)
last-more false n = refl

pub place_in-push : (names : List (List ℕ)) (s q : List ℕ) → name_place_in (names ++ s ∷ []) q ≡ or_else (name_place_in names q) (if bytes_eq s q then Some (length names) else None)
place_in-push [] s q = refl
place_in-push (n ∷ names) s q = grind (arith, place_in-push names s q, last-more (bytes_eq s q) (length names), or_else-map)

map-below : (o : Option ℕ) (n i : ℕ) → ((j : ℕ) → o ≡ Some j → j < n) → option_map (λ j. j + 1) o ≡ Some i → i < suc n
map-below None n i below e = absurd cc
map-below (Some j) n i below e = let same : j + 1 ≡ i = cc in omega (arith, below j refl)

-- a place is a place of the list
pub place_in-below : (names : List (List ℕ)) (s : List ℕ) (i : ℕ) → name_place_in names s ≡ Some i → i < length names
place_in-below [] s i e = absurd cc
place_in-below (n ∷ names) s i e =
    elim (bytes_eq n s) as (λ b. (if b then Some 0 else option_map (λ j. j + 1) (name_place_in names s)) ≡ Some i → i < suc (length names)) [
      | true ↦ λ was. let same : 0 ≡ i = cc in omega arith
      | false ↦ λ was. map-below (name_place_in names s) (length names) i (λ j there. place_in-below names s j there) was
    ] e

-- a name that stands already changes no place
old_place : (names : List (List ℕ)) (s q : List ℕ) (j : ℕ) → name_place_in names s ≡ Some j → (b : Bool) → bytes_eq s q ≡ b → (o : Option ℕ) → name_place_in names q ≡ o → o ≡ or_else o (if b then Some (length names) else None)
old_place names s q j there true same None at = grind (arith, bytes_eq-Decides s q)
old_place names s q j there true same (Some i) at = refl
old_place names s q j there false same None at = refl
old_place names s q j there false same (Some i) at = refl

pub place_in-old : (names : List (List ℕ)) (s : List ℕ) (j : ℕ) → name_place_in names s ≡ Some j → (q : List ℕ) → name_place_in names q ≡ name_place_in (names ++ s ∷ []) q
place_in-old names s j there q = grind (arith, old_place names s q j there (bytes_eq s q) refl (name_place_in names q) refl, place_in-push names s q)

-- a new name has the last place
new_place : (names : List (List ℕ)) (s q : List ℕ) → name_place_in names s ≡ None → (b : Bool) → bytes_eq s q ≡ b → (o : Option ℕ) → name_place_in names q ≡ o → cond b (Some (length names)) o ≡ or_else o (if b then Some (length names) else None)
new_place names s q absent true same None at = refl
new_place names s q absent true same (Some i) at = grind (arith, bytes_eq-Decides s q)
new_place names s q absent false same None at = refl
new_place names s q absent false same (Some i) at = refl

pub place_in-new : (names : List (List ℕ)) (s : List ℕ) → name_place_in names s ≡ None → (q : List ℕ) → cond (bytes_eq s q) (Some (length names)) (name_place_in names q) ≡ name_place_in (names ++ s ∷ []) q
place_in-new names s absent q = grind (arith, new_place names s q absent (bytes_eq s q) refl (name_place_in names q) refl, place_in-push names s q)

pub some_is : (o : Option ℕ) → is_some o ≡ true → (j : ℕ) × (o ≡ Some j)
some_is None e = absurd cc
some_is (Some j) e = (j, refl)

pub none_is : (o : Option ℕ) → is_some o ≡ false → o ≡ None
none_is None e = refl
none_is (Some j) e = absurd cc

pub ruleset bounds = (place_in-below)
