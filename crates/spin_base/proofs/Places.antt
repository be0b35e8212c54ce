-- The item at a place of a list, as `slice_get` gives it: after a write, a push, a map, and beside another list.
use Rattle.std.proofs.Common.{◌≡◌, ◌≢◌, ℕ, zero, suc, ◌+◌, ◌<◌, ◌≤◌, List, [], ◌∷◌, ◌++◌, map, take, length, set, get_or, Option, Some, refl, sym, ap, ◌∙◌, subst, arith, inl, inr, ◌⊎◌}
use Rattle.std.specs.List.{All, AllZip, Contains, slice_get, zip, enumerate_from}
use Rattle.std.proofs.lemmas.{List.take_more, List.Elements.All-weaker, List.Elements.All-contains_itself, Option.slice_get_within, Option.get_or_from_slice_get, Option.same_Some}
use Rattle.std.proofs.lemmas.Slice.Zip.{all_zipped_more}

-- ---- what holds of each item

-- what holds of each item holds of the one at a place
pub All-at : {X : Type 0} (P : X → Type 0) (xs : List X) (i : ℕ) (x : X) → All P xs → slice_get xs i ≡ Some x → P x
All-at P xs i x all at = subst P (get_or_from_slice_get xs i x x at) (all i x (slice_get_within xs i x at))

-- what holds of each that is in the list holds of all
pub All-each : {X : Type 0} (P : X → Type 0) (xs : List X) → ((x : X) → Contains xs x → P x) → All P xs
All-each P xs each = All-weaker (Contains xs) P each xs (All-contains_itself xs)

-- a place below the length has an item
pub slice_get_there : {X : Type 0} (xs : List X) (i : ℕ) → i < length xs → (x : X) × (slice_get xs i ≡ Some x)
slice_get_there [] i below = absurd (omega arith)
slice_get_there (x ∷ xs) zero below = (x, refl)
slice_get_there (x ∷ xs) (suc i) below = slice_get_there xs i (omega arith)

-- the first items and the next, where it is known
pub take_more_at : {X : Type 0} (xs : List X) (i : ℕ) (x : X) → slice_get xs i ≡ Some x → take (i + 1) xs ≡ take i xs ++ x ∷ []
take_more_at xs i x at = grind (arith, take_more xs i x (slice_get_within xs i x at), slice_get_within xs i x at, get_or_from_slice_get xs i x x at)

pub map_more_at : {X Y : Type 0} (f : X → Y) (xs : List X) (i : ℕ) (x : X) → slice_get xs i ≡ Some x → map f (take (i + 1) xs) ≡ map f (take i xs) ++ f x ∷ []
map_more_at f [] i x there = cc
map_more_at f (y ∷ ys) zero x there = let same : y ≡ x = cc in ap (λ z. f z ∷ []) same
map_more_at f (y ∷ ys) (suc i) x there = grind (arith, map_more_at f ys i x there)

-- what a function makes of the item at a place is at that place of what it makes of all
pub slice_get-mapped : {X Y : Type 0} (f : X → Y) (xs : List X) (i : ℕ) (x : X) → slice_get xs i ≡ Some x → slice_get (map f xs) i ≡ Some (f x)
slice_get-mapped f [] i x here = cc
slice_get-mapped f (y ∷ ys) zero x here = let same : y ≡ x = cc in ap (λ z. Some (f z)) same
slice_get-mapped f (y ∷ ys) (suc i) x here = slice_get-mapped f ys i x here

-- and what stands at a place of it was made of the item there
pub unmapped : {X Y : Type 0} (f : X → Y) (xs : List X) (i : ℕ) (y : Y) → slice_get (map f xs) i ≡ Some y → (x : X) × (slice_get xs i ≡ Some x) × (f x ≡ y)
unmapped f [] i y at = cc
unmapped f (x ∷ xs) zero y at = (x, refl, same_Some (f x) y at)
unmapped f (x ∷ xs) (suc i) y at = unmapped f xs i y at

-- a place has one item
pub one_item_at : {X : Type 0} (xs : List X) (i j : ℕ) (x y : X) → i ≡ j → slice_get xs i ≡ Some x → slice_get xs j ≡ Some y → x ≡ y
one_item_at xs i j x y same at also = same_Some x y (sym at ∙ (ap (slice_get xs) same ∙ also))

-- ---- lists with nothing in them

-- two joined lists of which nothing is there
pub both_none : {X : Type 0} (xs ys : List X) → xs ++ ys ≡ [] → (xs ≡ []) × (ys ≡ [])
both_none [] ys none = (refl, none)
both_none (x ∷ xs) ys none = cc

-- a list of no more than no items
pub none_within : {X : Type 0} (xs : List X) (n : ℕ) → length xs ≤ n → n ≤ 0 → xs ≡ []
none_within [] n few none = refl
none_within (x ∷ xs) n few none = absurd (omega arith)

-- ---- after a write

pub slice_get-set_same : {X : Type 0} (xs : List X) (i : ℕ) (x y : X) → slice_get xs i ≡ Some x → slice_get (set xs i y) i ≡ Some y
slice_get-set_same [] i x y at = cc
slice_get-set_same (z ∷ xs) zero x y at = refl
slice_get-set_same (z ∷ xs) (suc i) x y at = slice_get-set_same xs i x y at

pub slice_get-set_other : {X : Type 0} (xs : List X) (i j : ℕ) (y : X) → j ≢ i → slice_get (set xs i y) j ≡ slice_get xs j
slice_get-set_other [] i j y other = refl
slice_get-set_other (x ∷ xs) zero zero y other = absurd (other refl)
slice_get-set_other (x ∷ xs) zero (suc j) y other = refl
slice_get-set_other (x ∷ xs) (suc i) zero y other = refl
slice_get-set_other (x ∷ xs) (suc i) (suc j) y other = slice_get-set_other xs i j y (λ e. other (ap suc e))

-- writing what is there changes nothing
pub set-slice_get : {X : Type 0} (xs : List X) (i : ℕ) (x : X) → slice_get xs i ≡ Some x → set xs i x ≡ xs
set-slice_get [] i x at = refl
set-slice_get (y ∷ xs) zero x at = let same : y ≡ x = cc in ap (λ z. z ∷ xs) (sym same)
set-slice_get (y ∷ xs) (suc i) x at = ap (λ zs. y ∷ zs) (set-slice_get xs i x at)

-- an item that is replaced, and put back
pub set_put_back : {X : Type 0} (xs : List X) (i : ℕ) (x y : X) → slice_get xs i ≡ Some x → set (set xs i y) i x ≡ xs
set_put_back [] i x y at = cc
set_put_back (z ∷ zs) zero x y at = let same : z ≡ x = cc in ap (λ w. w ∷ zs) (sym same)
set_put_back (z ∷ zs) (suc i) x y at = ap (λ l. z ∷ l) (set_put_back zs i x y at)

-- ---- after a push

pub slice_get-push_cases : {X : Type 0} (xs : List X) (y x : X) (j : ℕ) → slice_get (xs ++ y ∷ []) j ≡ Some x →
    ((j < length xs) × (slice_get xs j ≡ Some x)) ⊎ ((j ≡ length xs) × (y ≡ x))
slice_get-push_cases [] y x zero e = inr (refl, cc)
slice_get-push_cases [] y x (suc j) e = cc
slice_get-push_cases (z ∷ zs) y x zero e = inl (omega arith, e)
slice_get-push_cases (z ∷ zs) y x (suc j) e = grind (arith, slice_get-push_cases zs y x j e)

pub slice_get-append_left : {X : Type 0} (xs ys : List X) (j : ℕ) (x : X) → slice_get xs j ≡ Some x → slice_get (xs ++ ys) j ≡ Some x
slice_get-append_left [] ys j x e = cc
slice_get-append_left (z ∷ zs) ys zero x e = e
slice_get-append_left (z ∷ zs) ys (suc j) x e = slice_get-append_left zs ys j x e

pub slice_get-pushed : {X : Type 0} (xs : List X) (y : X) (j : ℕ) → j ≡ length xs → slice_get (xs ++ y ∷ []) j ≡ Some y
slice_get-pushed [] y j e = ap (slice_get (y ∷ [])) e
slice_get-pushed (z ∷ zs) y zero e = absurd (omega (arith, e))
slice_get-pushed (z ∷ zs) y (suc j) e = slice_get-pushed zs y j (omega (arith, e))

-- ---- lists side by side

-- beside an item of the second list stands one of the first
pub AllZip-at_second : {X Y : Type 0} (R : X → Y → Type 0) (xs : List X) (ys : List Y) → AllZip R xs ys → (i : ℕ) (y : Y) → slice_get ys i ≡ Some y →
    (x : X) × (slice_get xs i ≡ Some x) × R x y
AllZip-at_second R [] [] h i y e = cc
AllZip-at_second R [] (z ∷ ys) h i y e = absurd h
AllZip-at_second R (x ∷ xs) [] h i y e = absurd h
AllZip-at_second R (x ∷ xs) (z ∷ ys) h zero y e = let same : z ≡ y = cc in (x, refl, subst (R x) same h.0)
AllZip-at_second R (x ∷ xs) (z ∷ ys) h (suc i) y e = AllZip-at_second R xs ys h.1 i y e

-- beside an item of the first list stands one of the second
pub AllZip-at_first : {X Y : Type 0} (R : X → Y → Type 0) (xs : List X) (ys : List Y) → AllZip R xs ys → (i : ℕ) (x : X) → slice_get xs i ≡ Some x →
    (y : Y) × (slice_get ys i ≡ Some y) × R x y
AllZip-at_first R [] [] h i x e = cc
AllZip-at_first R [] (z ∷ ys) h i x e = absurd h
AllZip-at_first R (z ∷ xs) [] h i x e = absurd h
AllZip-at_first R (z ∷ xs) (y ∷ ys) h zero x e = let same : z ≡ x = cc in (y, refl, subst (λ w. R w y) same h.0)
AllZip-at_first R (z ∷ xs) (y ∷ ys) h (suc i) x e = AllZip-at_first R xs ys h.1 i x e

-- one pair more of a loop over the first list
pub AllZip-more : {X Y : Type 0} (R : X → Y → Type 0) (xs : List X) (ys : List Y) (i : ℕ) (x : X) (y : Y) → i < length xs → x ≡ get_or xs i x → AllZip R (take i xs) ys → R x y →
    AllZip R (take (i + 1) xs) (ys ++ y ∷ [])
AllZip-more R xs ys i x y below is h r = grind (arith, take_more xs i x below, all_zipped_more R (take i xs) ys x y h r)

-- the pairs of two lists, one pair more
pub zip_more : {X Y : Type 0} (xs : List X) (ys : List Y) (i : ℕ) (x : X) (y : Y) → slice_get xs i ≡ Some x → slice_get ys i ≡ Some y →
    zip (take (i + 1) xs) (take (i + 1) ys) ≡ zip (take i xs) (take i ys) ++ (x, y) ∷ []
zip_more [] ys i x y ex ey = cc
zip_more (w ∷ xs) [] i x y ex ey = cc
zip_more {X} {Y} (w ∷ xs) (z ∷ ys) zero x y ex ey = grind arith
zip_more {X} {Y} (w ∷ xs) (z ∷ ys) (suc i) x y ex ey = grind (arith, zip_more xs ys i x y ex ey)

-- the first of a pair is the first list's item there
pub zip-first_at : {X Y : Type 0} (xs : List X) (ys : List Y) (i : ℕ) (p : X × Y) → slice_get (zip xs ys) i ≡ Some p → slice_get xs i ≡ Some p.0
zip-first_at [] ys i p e = cc
zip-first_at (x ∷ xs) [] i p e = cc
zip-first_at {X} {Y} (x ∷ xs) (y ∷ ys) zero p e = let same : (x, y) ≡ p = cc in ap {B = Option X} (λ (q : X × Y). Some q.0) same
zip-first_at (x ∷ xs) (y ∷ ys) (suc i) p e = zip-first_at xs ys i p e

-- ---- items with their numbers

pub enumerate_more : {X : Type 0} (n : ℕ) (xs : List X) (i j : ℕ) (x : X) → slice_get xs i ≡ Some x → n + i ≡ j →
    enumerate_from n (take (i + 1) xs) ≡ enumerate_from n (take i xs) ++ (j, x) ∷ []
enumerate_more n [] i j x is at = cc
enumerate_more {X} n (y ∷ ys) zero j x is at = grind arith
enumerate_more {X} n (y ∷ ys) (suc i) j x is at = grind (arith, enumerate_more (n + 1) ys i j x is (omega (arith, at)))

pub enumerate_push : {X : Type 0} (i : ℕ) (xs : List X) (y : X) (j : ℕ) → i + length xs ≡ j → enumerate_from i (xs ++ y ∷ []) ≡ enumerate_from i xs ++ (j, y) ∷ []
enumerate_push {X} i [] y j e = let same : i ≡ j = omega (arith, e) in ap {B = List (ℕ × X)} (λ k. (k, y) ∷ []) same
enumerate_push {X} i (x ∷ xs) y j e = ap {B = List (ℕ × X)} (λ l. (i, x) ∷ l) (enumerate_push (i + 1) xs y j (omega (arith, e)))
