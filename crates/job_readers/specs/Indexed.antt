-- What a contract sees of names in order, and what their slots and their map keep.
use Rattle.std.specs.Prelude.{◌≡◌, ◌⊎◌, ℕ, ◌<◌, List, All, length, map, Option, Some, slice_get}
use Rattle.std.specs.Ordering.{nat_cmp}
use Rattle.std.specs.Cmp.Lexicographic.{slice_cmp}
use Rattle.std.specs.BTreeMap.{get_by}
use Rattle.job_readers.specs.declared.names.Names.TheInside.{Inside}
use Rattle.job_readers.specs.Places.{name_place_in}

abbrev pub said_of : Inside → List (List ℕ)
said_of s = map (λ n. n.now) s.said.items

-- what the map tells of a text
abbrev pub told_of : Inside → List ℕ → Option ℕ
told_of s q = get_by (λ k. slice_cmp nat_cmp q k.now) s.places

-- what a slot has: 0, or the place of a name
abbrev pub MaybePlace : List (List ℕ) → ℕ → Type 0
MaybePlace names i = (i ≡ 0) ⊎ ((n : List ℕ) × (slice_get names i ≡ Some n) × (name_place_in names n ≡ Some i))

-- There are slots, each has a place or 0, and the map tells the place of each text.
pub record AreSlots (names : List (List ℕ)) (slots : List ℕ) (later : List ℕ → Option ℕ) : Type 0 where
  pub some : 0 < length slots
  pub places : All (MaybePlace names) slots
  pub told : (q : List ℕ) → later q ≡ name_place_in names q

abbrev pub IsIndexed : Inside → Type 0
IsIndexed s = AreSlots (said_of s) s.slots.items (told_of s)
