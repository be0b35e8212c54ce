-- Where in a list of holes a range fits, as the private functions say it.
use Rattle.std.specs.Prelude.{◌≡◌, ◌≢◌, ℕ, ◌-◌, ◌%◌, ◌<◌, ◌≤◌, ◌||◌, true, false, List, length, Option, Some, MatchOption, slice_get}
use Rattle.range_store.specs.declared.holes.Hole.{Hole}
use Rattle.range_store.specs.Regions.{AreRuns, has_range, hole_end, in_range, is_free}

-- the range lies in the hole at that place of the list, which ends at 2^32 at most
pub record FitsAt (holes : List Hole) (at place size : ℕ) : Type 0 where
  pub hole : Hole
  pub is : slice_get holes at ≡ Some hole
  pub inside : at < length holes
  pub fits : has_range place size hole ≡ true
  pub below : hole_end hole ≤ 4294967296

-- the least multiple of align, of those from one place on, from which a range lies in this hole
pub record IsLeastIn (h : Hole) (from size align place : ℕ) : Type 0 where
  pub aligned : place % align ≡ 0
  pub behind : from ≤ place
  pub fits : has_range place size h ≡ true
  pub least : (q : ℕ) → from ≤ q → q % align ≡ 0 → has_range q size h ≡ true → place ≤ q

-- no range from such a multiple of align on lies in this hole
abbrev pub NoneIn : Hole → ℕ → ℕ → ℕ → Type 0
NoneIn h from size align = (q : ℕ) → from ≤ q → q % align ≡ 0 → has_range q size h ≡ false

-- The places of the range are free too, and the holes are runs of free places below n.
abbrev pub IsPutBack : ℕ → ℕ → ℕ → List Hole → List Hole → Type 0
IsPutBack place size n old new = ((k : ℕ) → is_free new k ≡ (is_free old k || in_range place size k)) × AreRuns 0 n new

-- at holes begin before the place; left is the last of them if it ends there, and right the next if it begins at the end
pub record AreNeighbours (holes : List Hole) (place end at : ℕ) (left right : Option Hole) : Type 0 where
  pub within : at ≤ length holes
  pub before : (k : ℕ) (h : Hole) → k < at → slice_get holes k ≡ Some h → h.place < place
  pub first : (h : Hole) → slice_get holes at ≡ Some h → place ≤ h.place
  pub left_is : MatchOption left ((h : Hole) → 0 < at → slice_get holes (at - 1) ≡ Some h → hole_end h ≢ place)
      (λ h. (0 < at) × (slice_get holes (at - 1) ≡ Some h) × (hole_end h ≡ place))
  pub right_is : MatchOption right ((h : Hole) → slice_get holes at ≡ Some h → h.place ≢ end) (λ h. (slice_get holes at ≡ Some h) × (h.place ≡ end))
