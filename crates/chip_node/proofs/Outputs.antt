-- The outputs that a route names: each has a number below 24, and no two are the same.
use Rattle.chip_node.proofs.Common.{All, All-cons, All-nil, All-weaker, AllPairs, Bool, Core, IsOutput, List, Out, Route, [], all_outs, arith, cond, false, filter, get_or, has, length, map}
use Rattle.chip_node.proofs.Common.{out_number, outs_of, range_with_len, suc, true, zero, ℕ, ◌+◌, ◌<◌, ◌∷◌, ◌≢◌, ◌≤◌}
use Rattle.spin_base.specs.Outputs.{core_outs, link_outs}

-- outputs in the order of their numbers, from one number on
abbrev Rises : ℕ → List Out → Type 0
Rises low [] = Unit {0}
Rises low (o ∷ os) = (low ≤ out_number o) × IsOutput o × Rises (out_number o + 1) os

rises_cores : (low a n : ℕ) → low ≤ 6 + a → a + n ≤ 18 → Rises low (map Core (range_with_len a n))
rises_cores low a zero from few = tt
rises_cores low a (suc n) from few = (from, omega arith, rises_cores (6 + a + 1) (a + 1) n (omega arith) (omega arith))

rises_all : Rises 0 all_outs
unfolding link_outs core_outs
rises_all = (omega arith, tt, (omega arith, tt, (omega arith, tt, (omega arith, tt, (omega arith, tt, (omega arith, tt, rises_cores 6 0 18 (omega arith) (omega arith)))))))

rises_lower : (low high : ℕ) (os : List Out) → low ≤ high → Rises high os → Rises low os
rises_lower low high [] below h = tt
rises_lower low high (o ∷ os) below h = (let from = h.0 in omega arith, h.1, h.2)

rises_filter : (p : Out → Bool) (low : ℕ) (os : List Out) → Rises low os → Rises low (filter p os)
rises_filter p low [] h = tt
rises_filter p low (o ∷ os) h = step (p o) (rises_filter p (out_number o + 1) os h.2)
  where
    step : (b : Bool) → Rises (out_number o + 1) (filter p os) → Rises low (cond b (o ∷ filter p os) (filter p os))
    step b rest = grind (arith, rises_lower)

rises_numbered : (low : ℕ) (os : List Out) → Rises low os → All IsOutput os
rises_numbered low [] h = All-nil IsOutput
rises_numbered low (o ∷ os) h = All-cons IsOutput o os h.1 (rises_numbered (out_number o + 1) os h.2)

rises_from : (low : ℕ) (os : List Out) → Rises low os → All (λ o. low ≤ out_number o) os
rises_from low [] h = All-nil (λ o. low ≤ out_number o)
rises_from low (o ∷ os) h = grind (arith, rises_from (out_number o + 1) os h.2, All-cons, All-weaker)

rises_differ : (low : ℕ) (os : List Out) → Rises low os → (i j : ℕ) (d : Out) → i < j → j < length os → get_or os i d ≢ get_or os j d
rises_differ low [] h i j d before inside = absurd (omega arith)
rises_differ low (o ∷ os) h zero zero d before inside = absurd (omega arith)
rises_differ low (o ∷ os) h zero (suc j) d before inside = grind (arith, rises_from (out_number o + 1) os h.2 j d (omega arith))
rises_differ low (o ∷ os) h (suc i) zero d before inside = absurd (omega arith)
rises_differ low (o ∷ os) h (suc i) (suc j) d before inside = rises_differ (out_number o + 1) os h.2 i j d (omega arith) (omega arith)

pub outs_numbered : (r : Route) → All IsOutput (outs_of r)
outs_numbered r = rises_numbered 0 (outs_of r) (rises_filter (has r) 0 all_outs rises_all)

pub outs_differ : (r : Route) → AllPairs (λ a b. a ≢ b) (outs_of r)
outs_differ r = rises_differ 0 (outs_of r) (rises_filter (has r) 0 all_outs rises_all)

-- no more outputs pass a test than there are
pub few_pass : (p : Out → Bool) (os : List Out) → length (filter p os) ≤ length os
few_pass p [] = omega arith
few_pass p (o ∷ os) = step (p o) (few_pass p os)
  where
    step : (b : Bool) → length (filter p os) ≤ length os → length (cond b (o ∷ filter p os) (filter p os)) ≤ length (o ∷ os)
    step b few = grind arith
