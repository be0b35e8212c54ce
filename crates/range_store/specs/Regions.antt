-- Regions of places, as the lists of their holes. The rules are this project's own.
use Rattle.std.specs.Prelude.{◌≡◌, ℕ, ◌+◌, ◌-◌, ◌%◌, ◌<◌, ◌≤◌, min, max, Bool, refl, true, false, ◌&&◌, nat_le, nat_lt, List, [], ◌∷◌, ◌++◌, if◌then◌else◌}
use Rattle.std.specs.List.{list_any, flat_map}
use Rattle.std.specs.Coded.{le_prop}
use Rattle.range_store.specs.declared.holes.Hole.{Hole}

-- the place after a hole's last
abbrev pub hole_end : Hole → ℕ
hole_end h = h.place + h.len

-- the range of size places from a place on lies in the hole
abbrev pub has_range : ℕ → ℕ → Hole → Bool
has_range place size h = nat_le h.place place && nat_le (place + size) (hole_end h)

-- the range lies in one hole
abbrev pub is_hole_range : List Hole → ℕ → ℕ → Bool
is_hole_range holes place size = list_any (has_range place size) holes

-- A place is free where it lies in a hole.
abbrev pub is_free : List Hole → ℕ → Bool
is_free holes k = is_hole_range holes k 1

-- the range from a place on has the place k
abbrev pub in_range : ℕ → ℕ → ℕ → Bool
in_range place size k = nat_le place k && nat_lt k (place + size)

-- Holes are the longest runs of free places, in order: each has a place, lies below n, and begins beyond the
-- place after the one before it.
abbrev pub AreRuns : ℕ → ℕ → List Hole → Type 0
AreRuns from n [] = Unit {0}
AreRuns from n (h ∷ hs) = (from ≤ h.place) × (0 < h.len) × (hole_end h ≤ n) × AreRuns (hole_end h + 1) n hs

-- that holes are such runs has one proof at most
pub AreRuns-prop : (from n : ℕ) (hs : List Hole) → IsProp (AreRuns from n hs)
AreRuns-prop from n [] a b = refl
AreRuns-prop from n (h ∷ hs) a b = λ i. (le_prop a.0 b.0 i, le_prop a.1 b.1 i, le_prop a.2 b.2 i, AreRuns-prop (hole_end h + 1) n hs a.3 b.3 i)

-- no place of the range is free
abbrev pub NoneIsFree : List Hole → ℕ → ℕ → Type 0
NoneIsFree holes place size = (k : ℕ) → in_range place size k ≡ true → is_free holes k ≡ false

-- so many places, from a multiple of a number on: neither is 0
pub record IsAsked (size align : ℕ) : Type 0 where
  pub some : 0 < size
  pub step : 0 < align

-- the places from one up to another, as a hole, or as none where there are none
abbrev pub hole_of : ℕ → ℕ → List Hole
hole_of from to = if nat_lt from to then record { place = from; len = to - from } ∷ [] else []

-- what a range leaves of a hole: what lies before the range, and what lies after it
abbrev pub rest_of : ℕ → ℕ → Hole → List Hole
rest_of place size h = hole_of h.place (min (hole_end h) place) ++ hole_of (max h.place (place + size)) (hole_end h)

-- the holes that a range leaves
abbrev pub holes_without : ℕ → ℕ → List Hole → List Hole
holes_without place size holes = flat_map (rest_of place size) holes

-- The place is the least multiple of align from which a range of that size lies in a hole. So it lies in the first
-- hole that has such a place, and is the least there.
pub record IsFirstFit (holes : List Hole) (size align place : ℕ) : Type 0 where
  pub aligned : place % align ≡ 0
  pub fits : is_hole_range holes place size ≡ true
  pub least : (q : ℕ) → q % align ≡ 0 → is_hole_range holes q size ≡ true → place ≤ q

-- The same among the places from one place on.
pub record IsFirstFitFrom (holes : List Hole) (from size align place : ℕ) : Type 0 where
  pub aligned : place % align ≡ 0
  pub behind : from ≤ place
  pub fits : is_hole_range holes place size ≡ true
  pub least : (q : ℕ) → from ≤ q → q % align ≡ 0 → is_hole_range holes q size ≡ true → place ≤ q

-- no hole has a range of that size from a multiple of align on
abbrev pub HasNoFit : List Hole → ℕ → ℕ → Type 0
HasNoFit holes size align = (q : ℕ) → q % align ≡ 0 → is_hole_range holes q size ≡ false

-- no hole has one that begins at a place or behind it
abbrev pub HasNoFitFrom : List Hole → ℕ → ℕ → ℕ → Type 0
HasNoFitFrom holes from size align = (q : ℕ) → from ≤ q → q % align ≡ 0 → is_hole_range holes q size ≡ false
