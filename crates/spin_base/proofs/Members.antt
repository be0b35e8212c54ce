-- The members of a list: of a first item and others, of lists joined, mapped, filtered and searched.
-- `Among` is membership by recursion over the list; `Contains` of std names a place.
use Rattle.std.proofs.Common.{◌≡◌, ℕ, zero, suc, ◌<◌, Bool, true, nat_lt, List, [], ◌∷◌, ◌++◌, map, length, Option, Some, None, refl, sym, ap, ◌∙◌, subst, arith, inl, inr, ◌⊎◌}
use Rattle.std.specs.List.{Contains, slice_get, slice_index_or, filter, filter_map, cons_option, list_any, position}
use Rattle.std.proofs.lemmas.{Bool.cases_Bool, Bool.cond-true, Bool.cond-false, Bool.ltb-false, List.Folds.Any-from_list_any, List.Folds.list_any_at, List.Quantifiers.position-Some}
use Rattle.std.proofs.lemmas.{List.Sums.fails_before_first, Option.slice_get-get_or, Option.slice_get_within, Option.get_or_from_slice_get}

-- ---- Contains, of a first item and others

pub Contains-none : {X : Type 0} (x : X) → Contains [] x → ⊥
Contains-none x has = absurd (let none : has.0 < 0 = has.1 in omega arith)

pub Contains-first : {X : Type 0} (x : X) (xs : List X) → Contains (x ∷ xs) x
Contains-first x xs = (0, omega arith, refl)

pub Contains-later : {X : Type 0} (x : X) (xs : List X) (y : X) → Contains xs y → Contains (x ∷ xs) y
Contains-later x xs y has = (suc has.0, (let within : has.0 < length xs = has.1 in omega arith), has.2)

pub Contains-cases : {X : Type 0} (x : X) (xs : List X) (y : X) → Contains (x ∷ xs) y → (x ≡ y) ⊎ Contains xs y
Contains-cases x xs y h1 = grind arith

-- a list of one item has that item alone
pub Contains-only : {X : Type 0} (x y : X) → Contains (x ∷ []) y → x ≡ y
Contains-only x y has = elim (Contains-cases x [] y has) [ inl here ↦ here | inr later ↦ absurd (Contains-none y later) ]

-- the item at a place is in the list
pub Contains-at : {X : Type 0} (xs : List X) (i : ℕ) (x : X) → slice_get xs i ≡ Some x → Contains xs x
Contains-at xs i x at = (i, slice_get_within xs i x at, get_or_from_slice_get xs i x x at)

-- ---- Among: x is one of the list

abbrev pub Among : {X : Type 0} → X → List X → Type 0
Among x [] = ⊥
Among x (y ∷ ys) = (x ≡ y) ⊎ Among x ys

pub among_contains : {X : Type 0} (x : X) (xs : List X) → Among x xs → Contains xs x
among_contains x [] a = absurd a
among_contains x (y ∷ xs) (inl here) = (0, omega arith, sym here)
among_contains x (y ∷ xs) (inr later) = Contains-later y xs x (among_contains x xs later)

pub contains_among : {X : Type 0} (x : X) (xs : List X) → Contains xs x → Among x xs
contains_among x xs has = at xs has.0 has.1 has.2
  where
    at : (ys : List _) (k : ℕ) → k < length ys → slice_index_or ys k x ≡ x → Among x ys
    at [] k within is = absurd (omega arith)
    at (y ∷ ys) zero within is = inl (sym is)
    at (y ∷ ys) (suc k) within is = inr (at ys k (omega arith) is)

-- a list of one item has that item alone
pub among_only : {X : Type 0} (x y : X) (xs : List X) → xs ≡ x ∷ [] → Among y xs → y ≡ x
among_only x y xs is a = elim (subst (λ l. Among y l) is a) [ inl same ↦ same | inr none ↦ absurd none ]

pub among_left : {X : Type 0} (x : X) (xs ys : List X) → Among x xs → Among x (xs ++ ys)
among_left x [] ys a = absurd a
among_left x (y ∷ xs) ys (inl here) = inl here
among_left x (y ∷ xs) ys (inr later) = inr (among_left x xs ys later)

pub among_right : {X : Type 0} (x : X) (xs ys : List X) → Among x ys → Among x (xs ++ ys)
among_right x [] ys a = a
among_right x (y ∷ xs) ys a = inr (among_right x xs ys a)

pub among_either : {X : Type 0} (x : X) (xs ys : List X) → Among x (xs ++ ys) → Among x xs ⊎ Among x ys
among_either x [] ys a = inr a
among_either x (y ∷ xs) ys (inl here) = inl (inl here)
among_either x (y ∷ xs) ys (inr later) = grind (arith, among_either x xs ys later)

pub map_among : {X Y : Type 0} (f : X → Y) (x : X) (xs : List X) → Among x xs → Among (f x) (map f xs)
map_among f x [] a = absurd a
map_among f x (y ∷ xs) (inl here) = inl (ap f here)
map_among f x (y ∷ xs) (inr later) = inr (map_among f x xs later)

pub among_map : {X Y : Type 0} (f : X → Y) (y : Y) (xs : List X) → Among y (map f xs) → (x : X) × Among x xs × (y ≡ f x)
among_map f y [] a = absurd a
among_map f y (x ∷ xs) (inl here) = (x, inl refl, here)
among_map f y (x ∷ xs) (inr later) = let rest = among_map f y xs later in (rest.0, inr rest.1, rest.2)

-- the item at a place is among the list
pub among_at : {X : Type 0} (xs : List X) (i : ℕ) (x : X) → slice_get xs i ≡ Some x → Among x xs
among_at [] i x at = cc
among_at (y ∷ ys) zero x at = inl (let same : x ≡ y = cc in same)
among_at (y ∷ ys) (suc i) x at = inr (among_at ys i x at)

-- ---- what a map has

pub Contains-map : {X Y : Type 0} (f : X → Y) (xs : List X) (x : X) → Contains xs x → Contains (map f xs) (f x)
Contains-map f xs x has = among_contains (f x) (map f xs) (map_among f x xs (contains_among x xs has))

pub Contains-unmap : {X Y : Type 0} (f : X → Y) (xs : List X) (y : Y) → Contains (map f xs) y → (x : X) × Contains xs x × (f x ≡ y)
Contains-unmap f xs y has =
    grind (arith, among_map f y xs (contains_among y (map f xs) has), among_contains (among_map f y xs (contains_among y (map f xs) has)).0 xs (among_map f y xs (contains_among y (map f xs) has)).1)

-- ---- what a filter keeps

pub Contains-from_filter : {X : Type 0} (p : X → Bool) (xs : List X) (x : X) → Contains (filter p xs) x → Contains xs x × (p x ≡ true)
Contains-from_filter p [] x has = absurd (Contains-none x has)
Contains-from_filter {X} p (y ∷ ys) x has = elim (cases_Bool (p y)) [
  | inl kept ↦ elim (Contains-cases y (filter p ys) x (subst (λ zs. Contains zs x) (cond-true (p y) (y ∷ filter p ys) (filter p ys) kept) has)) [
    | inl here ↦ ((0, omega arith, here), subst (λ (z : X). p z ≡ true) here kept)
    | inr later ↦ let rest = Contains-from_filter p ys x later in (Contains-later y ys x rest.0, rest.1)
  ]
  | inr left ↦
      let rest = Contains-from_filter p ys x (subst (λ zs. Contains zs x) (cond-false (p y) (y ∷ filter p ys) (filter p ys) left) has) in
      (Contains-later y ys x rest.0, rest.1)
]

pub Contains-filter : {X : Type 0} (p : X → Bool) (xs : List X) (x : X) → Contains xs x → p x ≡ true → Contains (filter p xs) x
Contains-filter p [] x has pass = absurd (Contains-none x has)
Contains-filter {X} p (y ∷ ys) x has pass = elim (Contains-cases y ys x has) [
  | inl here ↦ grind (arith, cond-true)
  | inr later ↦ grind (arith, cases_Bool (p y), Contains-later y (filter p ys) x (Contains-filter p ys x later pass), Contains-filter p ys x later pass, cond-true, cond-false)
]

pub among_filter : {X : Type 0} (p : X → Bool) (x : X) (xs : List X) → Among x (filter p xs) → Among x xs × (p x ≡ true)
among_filter p x xs a =
    let found = Contains-from_filter p xs x (among_contains x (filter p xs) a) in (contains_among x xs found.0, found.1)

-- ---- what a map of some items gives

pub Contains-from_filter_map : {X Y : Type 0} (h : X → Option Y) (xs : List X) (y : Y) → Contains (filter_map h xs) y → (x : X) × Contains xs x × (h x ≡ Some y)
Contains-from_filter_map h [] y has = absurd (Contains-none y has)
Contains-from_filter_map {X} {Y} h (x ∷ xs) y has = elim (given (h x) refl has) [
  | inl here ↦ (x, (0, omega arith, refl), here)
  | inr later ↦ let rest = Contains-from_filter_map h xs y later in (rest.0, Contains-later x xs rest.0 rest.1, rest.2)
]
  where
    given : (o : Option Y) → h x ≡ o → Contains (cons_option o (filter_map h xs)) y → (h x ≡ Some y) ⊎ Contains (filter_map h xs) y
    given o is has = grind (arith, Contains-cases)

pub Contains-filter_map : {X Y : Type 0} (h : X → Option Y) (xs : List X) (x : X) (y : Y) → Contains xs x → h x ≡ Some y → Contains (filter_map h xs) y
Contains-filter_map h [] x y has is = absurd (Contains-none x has)
Contains-filter_map {X} {Y} h (z ∷ zs) x y has is = elim (Contains-cases z zs x has) [
  | inl here ↦
      let given : h z ≡ Some y = ap h here ∙ is in
      subst (λ (o : Option Y). Contains (cons_option o (filter_map h zs)) y) (sym given) (0, omega arith, refl)
  | inr later ↦ rest (h z) (filter_map h zs) (Contains-filter_map h zs x y later is)
]
  where
    rest : (o : Option Y) (ys : List Y) → Contains ys y → Contains (cons_option o ys) y
    rest None ys has = has
    rest (Some w) ys has = Contains-later w ys y has

-- ---- what a search finds

pub any_among : {X : Type 0} (p : X → Bool) (xs : List X) → list_any p xs ≡ true → (x : X) × Among x xs × (p x ≡ true)
any_among p xs e = grind (arith, Any-from_list_any p xs e, contains_among (Any-from_list_any p xs e).1 xs ((Any-from_list_any p xs e).0, (Any-from_list_any p xs e).2, (Any-from_list_any p xs e).3))

pub among_any : {X : Type 0} (p : X → Bool) (x : X) (xs : List X) → Among x xs → p x ≡ true → list_any p xs ≡ true
among_any p x xs a passes = let has = among_contains x xs a in list_any_at p xs has.0 x has.1 (ap p has.2 ∙ passes)

-- the item at the place that is found
pub position_there : {X : Type 0} (p : X → Bool) (xs : List X) (i : ℕ) (d : X) → position p xs ≡ Some i →
    (x : X) × (slice_get xs i ≡ Some x) × Among x xs × (p x ≡ true)
position_there p xs i d is =
    grind (arith, position-Some p xs i d is, slice_get-get_or xs i d (position-Some p xs i d is).0, among_at xs i (slice_index_or xs i d) (slice_get-get_or xs i d (position-Some p xs i d is).0))

-- where no place is found, no item passes
pub position_nowhere : {X : Type 0} (p : X → Bool) (xs : List X) (x : X) → position p xs ≡ None → Among x xs → p x ≡ true → ⊥
position_nowhere {X} p xs x is a passes = grind (arith, nat_lt, among_contains, ltb-false, fails_before_first)
