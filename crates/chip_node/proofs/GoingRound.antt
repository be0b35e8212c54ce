-- A ring of places that is gone through from a start: what holds at each place that was gone by.
use Rattle.chip_node.proofs.Common.{arith, cases_eq, cases_lt, inl, inr, ℕ, ◌+◌, ◌<◌, ◌≡◌, ◌≢◌, ◌≤◌, ◌⊎◌}

-- the place was gone by within so many steps
abbrev pub IsBehind : ℕ → ℕ → ℕ → ℕ → Type 0
IsBehind start count steps j = ((start ≤ j) × (j < start + steps)) ⊎ (j + count < start + steps)

-- the place of a step
abbrev pub IsPlaceOf : ℕ → ℕ → ℕ → ℕ → Type 0
IsPlaceOf start count steps at = (at ≡ start + steps) ⊎ (at + count ≡ start + steps)

still_behind : (start count steps at j : ℕ) → start ≤ count → steps < count → at < count → j < count → IsPlaceOf start count steps at → j ≢ at → IsBehind start count (steps + 1) j →
    IsBehind start count steps j
still_behind start count steps at j s n below inside its_9 other its_11 = grind arith

all_behind : (start count steps j : ℕ) → start ≤ count → j < count → count ≤ steps → IsBehind start count steps j
all_behind start count steps j s inside end = elim (cases_lt j start) [ inl before ↦ inr (omega arith) | inr after ↦ inl (omega arith, omega arith) ]

none_behind : (start count j : ℕ) → start ≤ count → j < count → IsBehind start count 0 j → ⊥
none_behind start count j s inside its_5 = grind arith

-- P holds at each place that was gone by
pub record GoneBy (P : ℕ → Type 0) (start count steps : ℕ) : Type 0 where
  pub within : start ≤ count
  pub each : (j : ℕ) → j < count → IsBehind start count steps j → P j

module _ (P : ℕ → Type 0) where
  pub gone_none : (start count : ℕ) → start ≤ count → GoneBy P start count 0
  gone_none start count s = record { within = s; each = λ j inside h. absurd (none_behind start count j s inside h) }

  pub gone_more : (start count steps at : ℕ) → steps < count → at < count → IsPlaceOf start count steps at → P at → GoneBy P start count steps → GoneBy P start count (steps + 1)
  gone_more start count steps at n below place holds h = grind (arith, cases_eq, still_behind)

  pub gone_all : (start count steps : ℕ) → count ≤ steps → GoneBy P start count steps → (j : ℕ) → j < count → P j
  gone_all start count steps end h j inside = h.each j inside (all_behind start count steps j h.within inside end)
