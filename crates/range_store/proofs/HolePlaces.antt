-- Holes and the places that are free in them: which ranges fit.
use Rattle.range_store.proofs.Common.{AreRuns, Bool, Hole, List, [], arith, both_ways, cases_lt, false, has_range, hole_end, inl, inr, is_free, is_hole_range, nat_tests, or_cases, or_left, or_right}
use Rattle.range_store.proofs.Common.{refl, true, ℕ, ◌+◌, ◌<◌, ◌∷◌, ◌≡◌, ◌≤◌}

pub clash : {A : Type 0} {b : Bool} → b ≡ true → b ≡ false → A
clash t f = absurd (both_ways _ f t)

pub has_facts : (p s : ℕ) (h : Hole) → has_range p s h ≡ true → (h.place ≤ p) × (p + s ≤ hole_end h)
has_facts p s h e = (grind (arith, nat_tests), grind (arith, nat_tests))

pub has_from : (p s : ℕ) (h : Hole) → h.place ≤ p → p + s ≤ hole_end h → has_range p s h ≡ true
has_from p s h a b = grind (arith, nat_tests)

-- a free place is not before the first hole, and is below the end
pub free_within : (from n : ℕ) (hs : List Hole) (k : ℕ) → AreRuns from n hs → is_free hs k ≡ true → (from ≤ k) × (k < n)
free_within from n [] k runs e = clash e refl
free_within from n (h ∷ hs) k runs e =
    elim (or_cases (has_range k 1 h) (is_free hs k) e) [
      | inl here ↦ (let f = has_facts k 1 h here in (omega (arith, f.0, runs.0), omega (arith, f.1, runs.2)))
      | inr later ↦ (let f = free_within (hole_end h + 1) n hs k runs.3 later in (omega (arith, f.0, runs.0), f.1))
    ]

-- each place of a range that lies in a hole is free
pub free_in_range : (hs : List Hole) (p s k : ℕ) → is_hole_range hs p s ≡ true → p ≤ k → k < p + s → is_free hs k ≡ true
free_in_range [] p s k e low high = clash e refl
free_in_range (h ∷ hs) p s k e low high =
    elim (or_cases (has_range p s h) (is_hole_range hs p s) e) [
      | inl here ↦ grind (arith, has_facts p s h here, or_left, has_from)
      | inr later ↦ or_right (has_range k 1 h) (is_free hs k) (free_in_range hs p s k later low high)
    ]

-- a range of free places lies in one hole, since holes do not touch
pub range_of_free : (from n : ℕ) (hs : List Hole) (p s : ℕ) → AreRuns from n hs → 0 < s → ((k : ℕ) → p ≤ k → k < p + s → is_free hs k ≡ true) → is_hole_range hs p s ≡ true
range_of_free from n [] p s runs some free = clash (free p (omega arith) (omega arith)) refl
range_of_free from n (h ∷ hs) p s runs some free =
    elim (or_cases (has_range p 1 h) (is_free hs p) (free p (omega arith) (omega arith))) [
      | inl here ↦ (
          let f = has_facts p 1 h here in
          elim (cases_lt (hole_end h) (p + s)) [
            | inl beyond ↦ grind (arith, or_cases (has_range (hole_end h) 1 h) (is_free hs (hole_end h)) (free (hole_end h) (omega (arith, f.1)) beyond), has_facts, free_within)
            | inr within ↦ or_left (has_range p s h) (is_hole_range hs p s) (has_from p s h f.0 within)
          ]
          )
      | inr later ↦ (
          let low = free_within (hole_end h + 1) n hs p runs.3 later in
          let rest : (k : ℕ) → p ≤ k → k < p + s → is_free hs k ≡ true = grind (arith, or_cases, has_facts) in
          or_right (has_range p s h) (is_hole_range hs p s) (range_of_free (hole_end h + 1) n hs p s runs.3 some rest)
          )
    ]
