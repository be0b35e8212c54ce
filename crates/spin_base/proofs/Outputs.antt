-- Lemmas on routes and their outputs.
use Rattle.std.proofs.Common.{◌≡◌, ◌≢◌, ℕ, ◌+◌, ◌*◌, ◌%◌, ◌<◌, ◌≤◌, ◌^◌, ◌==◌, List, [], ◌∷◌, ◌++◌, map, filter, length, zero, suc, length-append, arith, ap, sym, ◌∙◌, refl, append_assoc, append-nil}
use Rattle.std.proofs.Common.{inl, inr, w32, bit_or}
use Rattle.std.specs.{Prelude.bit_and, List.range_with_len, Int.bit_at, Int.bit_not, Int.trailing_zeros}
use Rattle.std.proofs.{lemmas.Bool.cases_eq, lemmas.Bool.cases_lt, lemmas.Nat.and_le_l, lemmas.Nat.or_lt, Math.Pow.pow-lt, lemmas.List.Sums.count_by-le-length, lemmas.List.Sums.length-filter}
use Rattle.std.proofs.lemmas.Nat.Bits.{bit_at_above, bit_at-zero, bit_at_set_same, bit_at_set_other, bit_at-trailing_zeros, bit_at_clear_same, bit_at_clear_other}
use Rattle.spin_base.specs.{declared.routes.Out.Out, declared.routes.Out.TheVariants.Core, declared.chips.Dir.Dir, declared.routes.Route.Route, Outputs.has, Outputs.all_outs, Outputs.outs_of}
use Rattle.spin_base.specs.{Outputs.link_outs, Outputs.core_outs, Outputs.out_number, Outputs.IsOutput, Outputs.WithOut, Links.dir_number}

-- no bit from 24 on is set
pub no_high_bit : (r : Route) (k : ℕ) → 24 ≤ k → bit_at r.bits k ≡ 0
no_high_bit r k high = bit_at_above r.bits 24 k r.within high

-- a link's number is below 6
pub dir_number_below : (d : Dir) → dir_number d < 6
dir_number_below d = grind arith

-- links of one number are one link
pub dir_number_injective : (a b : Dir) → dir_number a ≡ dir_number b → a ≡ b
dir_number_injective a b e = grind arith

-- outputs of one number are one output
pub out_number_injective : (a b : Out) → out_number a ≡ out_number b → a ≡ b
out_number_injective a b e = grind (arith, dir_number_injective, dir_number_below)

-- an output that has a bit has one of the 24
pub out_number_below : (o : Out) → IsOutput o → out_number o < 24
out_number_below o valid = grind (arith, dir_number_below)

pow_below : (n : ℕ) → n < 24 → 2 ^ n < 2 ^ 24
pow_below n below = pow-lt below

one_shifted : (n : ℕ) → n < 24 → 1 * 2 ^ n % 2 ^ 32 ≡ 2 ^ n
one_shifted n below = let small : 2 ^ n < 2 ^ 24 = pow_below n below in omega arith

-- a bit that is set, with the number below 2 ^ 24
pub set_bit_within : (r : Route) (n : ℕ) → n < 24 → bit_or r.bits (1 * 2 ^ n % 2 ^ 32) < 2 ^ 24
set_bit_within r n below = rw (one_shifted n below) (or_lt 24 r.bits (2 ^ n) r.within (pow_below n below))

-- a route with one more bit
pub set_bit_with_out : (r s : Route) (o : Out) → IsOutput o → s.bits ≡ bit_or r.bits (1 * 2 ^ out_number o % 2 ^ 32) → WithOut r o s
set_bit_with_out r s o valid is =
    let fits : out_number o < 32 = omega (arith, out_number_below o valid) in
    record {
      has_it = rw (is, bit_at_set_same w32 r.bits (out_number o) fits) refl;
      same_else = λ p other.
          let apart : out_number p ≢ out_number o = λ e. other (out_number_injective p o e) in
          rw (is, bit_at_set_other w32 r.bits (out_number o) fits (out_number p) apart) refl;
    }

-- ---- the set bits of a route, from the lowest on

-- the outputs of a list that have their bit in a word
abbrev pub outs_in : ℕ → List Out → List Out
outs_in word outs = filter (λ o. bit_at word (out_number o) == 1) outs

-- the numbers of outputs rise by one, from a number on
RiseFrom : ℕ → List Out → Type 0
RiseFrom k [] = Unit {0}
RiseFrom k (o ∷ os) = (out_number o ≡ k) × RiseFrom (k + 1) os

rise_cores : (a n k : ℕ) → 6 + a ≡ k → RiseFrom k (map Core (range_with_len a n))
unfolding RiseFrom
rise_cores a zero k e = tt
rise_cores a (suc n) k e = (e, rise_cores (a + 1) n (k + 1) (omega (arith, e)))

all_rise : RiseFrom 0 all_outs
unfolding link_outs core_outs RiseFrom
all_rise = (refl, (refl, (refl, (refl, (refl, (refl, rise_cores 0 18 6 refl))))))

all_are : length all_outs ≡ 24
unfolding link_outs core_outs
all_are = refl

-- no bit, no output
pub no_outs : (os : List Out) → outs_in 0 os ≡ []
no_outs [] = refl
no_outs (o ∷ os) = rw (bit_at-zero (out_number o)) (no_outs os)

pub all_found : (r : Route) (items : List Out) (word : ℕ) → items ++ outs_in word all_outs ≡ outs_of r → word ≡ 0 → items ≡ outs_of r
all_found r items word found none = sym (append-nil items) ∙ (ap (λ l. items ++ l) (sym (no_outs all_outs) ∙ ap (λ w. outs_in w all_outs) (sym none)) ∙ found)

-- a word without one of its bits
abbrev pub less : ℕ → ℕ → ℕ
less word i = bit_and word (bit_not w32 (1 * 2 ^ i % 2 ^ 32))

module _ (word : ℕ) (fits : word < 2 ^ 24) (some : word ≢ 0) where
  abbrev lowest : ℕ
  lowest = trailing_zeros w32 word

  low : (lowest < 32) × (bit_at word lowest ≡ 1) × ((k : ℕ) → k < lowest → bit_at word k ≡ 0)
  low = bit_at-trailing_zeros w32 word (omega (arith, some)) (omega (arith, fits))

  gone : bit_at (less word lowest) lowest ≡ 0
  gone = bit_at_clear_same w32 word lowest low.0

  kept : (k : ℕ) → k < 32 → k ≢ lowest → bit_at (less word lowest) k ≡ bit_at word k
  kept k within other = bit_at_clear_other w32 word lowest low.0 k within other

  pub lowest_below : lowest < 24
  lowest_below = elim (cases_lt lowest 24) [
    | inl below ↦ below
    | inr above ↦ absurd (omega (arith, low.1, bit_at_above word 24 lowest fits above))
  ]

  pub less_fits : less word lowest < 2 ^ 24
  less_fits = omega (arith, fits, and_le_l word (bit_not w32 (1 * 2 ^ lowest % 2 ^ 32)))

  pub less_is_less : less word lowest < word
  less_is_less = elim (cases_eq (less word lowest) word) [
    | inl same ↦ absurd (omega (arith, gone, ap (λ n. bit_at n lowest) same, low.1))
    | inr other ↦ omega (arith, and_le_l word (bit_not w32 (1 * 2 ^ lowest % 2 ^ 32)), other)
  ]

  -- past the lowest bit both words have the same outputs
  same_past : (os : List Out) (k : ℕ) → RiseFrom k os → lowest < k → k + length os ≤ 32 → outs_in word os ≡ outs_in (less word lowest) os
  unfolding RiseFrom
  same_past [] k rise past within = refl
  same_past (o ∷ os) k rise past within = grind (arith, same_past os (k + 1) rise.1 (omega (arith, past)) (omega (arith, within)), kept)

  -- the output of the lowest bit comes first
  lowest_first : (os : List Out) (k : ℕ) (first : Out) → out_number first ≡ lowest → RiseFrom k os → k ≤ lowest → lowest < k + length os → k + length os ≤ 32 →
      outs_in word os ≡ first ∷ outs_in (less word lowest) os
  unfolding RiseFrom
  lowest_first [] k first is rise from below within = absurd (omega (arith, from, below))
  lowest_first (o ∷ os) k first is rise from below within = elim (cases_eq k lowest) [
    | inl same ↦
        let here : out_number o ≡ lowest = rise.0 ∙ same in
        let one : bit_at word (out_number o) ≡ 1 = ap (bit_at word) here ∙ low.1 in
        let none : bit_at (less word lowest) (out_number o) ≡ 0 = ap (bit_at (less word lowest)) here ∙ gone in
        rw (one, none, same_past os (k + 1) rise.1 (omega (arith, same)) (omega (arith, within)), out_number_injective o first (here ∙ sym is)) refl
    | inr other ↦
        let none : bit_at word (out_number o) ≡ 0 = ap (bit_at word) rise.0 ∙ low.2 k (omega (arith, from, other)) in
        let none' : bit_at (less word lowest) (out_number o) ≡ 0 = kept (out_number o) (omega (arith, rise.0, from, low.0)) (λ e. other (sym rise.0 ∙ e)) ∙ none in
        rw (none, none') (lowest_first os (k + 1) first is rise.1 (omega (arith, from, other)) (omega (arith, below)) (omega (arith, within)))
  ]

  module _ (r : Route) (items : List Out) (so_far : items ++ outs_in word all_outs ≡ outs_of r) (first : Out) (is : out_number first ≡ lowest) where
    split : outs_in word all_outs ≡ first ∷ outs_in (less word lowest) all_outs
    split = lowest_first all_outs 0 first is all_rise (omega arith) (omega (arith, all_are, lowest_below)) (omega (arith, all_are))

    pub one_more : (items ++ first ∷ []) ++ outs_in (less word lowest) all_outs ≡ outs_of r
    one_more = append_assoc items (first ∷ []) (outs_in (less word lowest) all_outs) ∙ (ap (λ l. items ++ l) (sym split) ∙ so_far)

    pub room_left : length items < 24
    room_left = grind (arith, split, length-append items (outs_in word all_outs), length-filter (has r) all_outs, count_by-le-length (has r) all_outs, all_are)
