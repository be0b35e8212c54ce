-- Which holes begin before a place.
use Rattle.range_store.proofs.Common.{AreRuns, Hole, IsNonDecreasingBy, List, Some, [], arith, cases_lt, false, get_or, get_or_from_slice_get, has_range, hole_end, inl, inr, is_hole_range, length}
use Rattle.range_store.proofs.Common.{nat_tests, refl, slice_get, slice_get_within, subst₂, suc, take, zero, ℕ, ◌+◌, ◌<◌, ◌∷◌, ◌≡◌, ◌≤◌}

-- a hole of the list begins at the list's beginning or later
pub place_from : (from n : ℕ) (hs : List Hole) → AreRuns from n hs → (k : ℕ) (d : Hole) → k < length hs → from ≤ (get_or hs k d).place
place_from from n [] runs k d inside = absurd (omega arith)
place_from from n (h ∷ hs) runs zero d inside = runs.0
place_from from n (h ∷ hs) runs (suc k) d inside = let later = place_from (hole_end h + 1) n hs runs.3 k d (omega arith) in omega (arith, later, runs.0)

-- a hole ends before a later one begins
pub ends_before : (from n : ℕ) (hs : List Hole) → AreRuns from n hs → (i j : ℕ) (d : Hole) → i < j → j < length hs → hole_end (get_or hs i d) < (get_or hs j d).place
ends_before from n [] runs i j d less inside = absurd (omega arith)
ends_before from n (h ∷ hs) runs i zero d less inside = absurd (omega arith)
ends_before from n (h ∷ hs) runs zero (suc j) d less inside = let later = place_from (hole_end h + 1) n hs runs.3 j d (omega arith) in omega (arith, later)
ends_before from n (h ∷ hs) runs (suc i) (suc j) d less inside = ends_before (hole_end h + 1) n hs runs.3 i j d (omega arith) (omega arith)

pub in_order : (from n : ℕ) (hs : List Hole) → AreRuns from n hs → IsNonDecreasingBy (λ (h : Hole). h.place) hs
in_order from n hs runs i j d le inside =
    elim (cases_lt i j) [
      | inl less ↦ (let e = ends_before from n hs runs i j d less inside in omega (arith, e))
      | inr same ↦ (let e : i ≡ j = omega (arith, same, le) in rw e (omega arith))
    ]

-- the holes before one that begins before a place end before it, so no range that begins there or later lies in them
pub none_before : (from n : ℕ) (hs : List Hole) (i b q s : ℕ) (d : Hole) → AreRuns from n hs → i < length hs → (get_or hs i d).place < b → b ≤ q →
    is_hole_range (take i hs) q s ≡ false
none_before from n [] i b q s d runs inside begins behind = absurd (omega arith)
none_before from n (h ∷ hs) zero b q s d runs inside begins behind = refl
none_before from n (h ∷ hs) (suc i) b q s d runs inside begins behind =
    grind (arith, place_from (hole_end h + 1) n hs runs.3 i d (omega arith), nat_tests, none_before (hole_end h + 1) n hs i b q s d runs.3 (omega arith) begins behind)

-- a range that no hole of a list has
pub none_has : (hs : List Hole) (p s : ℕ) → ((k : ℕ) (h : Hole) → slice_get hs k ≡ Some h → has_range p s h ≡ false) → is_hole_range hs p s ≡ false
none_has [] p s none = refl
none_has (h ∷ hs) p s none = rw (none zero h refl) (none_has hs p s (λ k g got. none (suc k) g got))

-- the range begins before all holes
pub before_all : (hs : List Hole) (p s : ℕ) → ((k : ℕ) (h : Hole) → slice_get hs k ≡ Some h → p + 1 ≤ h.place) → is_hole_range hs p s ≡ false
before_all hs p s after = none_has hs p s (λ k h got. let a = after k h got in grind (arith, nat_tests))

-- the range begins behind the beginning of the hole at a place of the list, ends beyond it, and begins before all later holes
pub beyond : (n : ℕ) (hs : List Hole) → AreRuns 0 n hs → (p s at : ℕ) (here : Hole) → slice_get hs at ≡ Some here → here.place < p + 1 → hole_end here < p + s
    → ((k : ℕ) (h : Hole) → at + 1 ≤ k → slice_get hs k ≡ Some h → p + 1 ≤ h.place) → is_hole_range hs p s ≡ false
beyond n hs runs p s at here is begins ends after =
    none_has hs p s (λ k h got.
    elim (cases_lt k at) [
      | inl earlier ↦ (
          let e = ends_before 0 n hs runs k at here earlier (slice_get_within hs at here is) in
          let a = get_or_from_slice_get hs k h here got in
          let b = get_or_from_slice_get hs at here here is in
          let far : hole_end h < here.place = subst₂ (λ (x y : Hole). hole_end x < y.place) a b e in
          grind (arith, nat_tests))
      | inr from_here ↦ grind (arith, cases_lt at k, nat_tests)
    ])
