-- What reading and writing does to the bytes outside, and when a fault is a real one.
use Rattle.std.specs.Prelude.{◌≡◌, ◌⊎◌, ℕ, ◌+◌, ◌-◌, ◌<◌, ◌≤◌, ◌^◌, min, List, [], ◌++◌, length, take, Option, Some, None}

-- The counter of faults shows one: it is greater than before, or stands at its last value (this project's own).
abbrev pub FaultsRose : ℕ → ℕ → Type 0
FaultsRose before after = (before < after) ⊎ (after ≡ 2 ^ 64 - 1)

-- one more, where the counter does not stand at its last value
abbrev pub one_more : ℕ → ℕ
one_more n = min (n + 1) (2 ^ 64 - 1)

-- Of the bytes that were to come these were given, in order, and the others are still to come. A source that
-- doesn't tell its bytes goes on not telling them.
abbrev pub GivesFirst : Option (List ℕ) → List ℕ → Option (List ℕ) → Type 0
GivesFirst (Some bytes) given (Some rest) = bytes ≡ given ++ rest
GivesFirst None given None = Unit {0}
GivesFirst (Some bytes) given None = ⊥
GivesFirst None given (Some rest) = ⊥

-- nothing is left, where that is told
abbrev pub IsAtEnd : Option (List ℕ) → Type 0
IsAtEnd (Some bytes) = bytes ≡ []
IsAtEnd None = Unit {0}

-- A read of n bytes into a buffer gives the buffer's first n bytes, and none only at the end of input.
pub record Reads (before : Option (List ℕ)) (n : ℕ) (buffer : List ℕ) (after : Option (List ℕ)) : Type 0 where
  pub gives : GivesFirst before (take n buffer) after
  pub end_of_input : n ≡ 0 → IsAtEnd before

-- some of the bytes that were to come are gone, from the front
abbrev pub LosesFront : Option (List ℕ) → Option (List ℕ) → Type 0
LosesFront before after = (given : List ℕ) × GivesFirst before given after

-- more than so many of them are gone
abbrev pub LosesMoreThan : ℕ → Option (List ℕ) → Option (List ℕ) → Type 0
LosesMoreThan limit before after = (given : List ℕ) × GivesFirst before given after × (limit < length given)

-- at most so many of them are gone
abbrev pub LosesAtMost : ℕ → Option (List ℕ) → Option (List ℕ) → Type 0
LosesAtMost limit before after = (given : List ℕ) × GivesFirst before given after × (length given ≤ limit)

-- all that was left was given, and nothing is left
pub record GivesAll (before : Option (List ℕ)) (given : List ℕ) (after : Option (List ℕ)) : Type 0 where
  pub gives : GivesFirst before given after
  pub at_end : IsAtEnd after

-- more than so many bytes were to come, where that is told
abbrev pub HasMoreThan : ℕ → Option (List ℕ) → Type 0
HasMoreThan limit (Some bytes) = limit < length bytes
HasMoreThan limit None = Unit {0}

-- What was written has these bytes more, in order. A sink that doesn't tell what it took goes on not telling it.
abbrev pub Takes : Option (List ℕ) → List ℕ → Option (List ℕ) → Type 0
Takes (Some written) bytes (Some more) = more ≡ written ++ bytes
Takes None bytes None = Unit {0}
Takes (Some written) bytes None = ⊥
Takes None bytes (Some more) = ⊥

-- a proper prefix of the bytes was written
abbrev pub TakesProperPrefix : Option (List ℕ) → List ℕ → Option (List ℕ) → Type 0
TakesProperPrefix before bytes after = (n : ℕ) × (n < length bytes) × Takes before (take n bytes) after
