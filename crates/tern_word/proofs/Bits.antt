-- Numbers by their bits: a number within a mask, and the number of ones.
use Rattle.std.proofs.Common.{◌≡◌, ℕ, zero, suc, ◌/◌, ◌%◌, ◌^◌, ◌<◌, ◌≤◌, min, sym, ap, ◌∙◌, arith}
use Rattle.std.specs.{Prelude.bit_and, Prelude.count_ones, Int.bit_at}
use Rattle.std.proofs.{Math.Nat.pow-suc, lemmas.Nat.Bits.bit_at_lowest, lemmas.Nat.Bits.bit_at-suc, lemmas.Nat.Bits.bit_at_and, lemmas.Nat.Bits.bit_at_above, lemmas.Nat.Bits.same_from_bits}
use lib.Count.{ones_step, ones-le}

-- the bits of n under the mask m are those of k
pub bits_of_and : (n m k : ℕ) → bit_and n m ≡ k → (i : ℕ) → min (bit_at n i) (bit_at m i) ≡ bit_at k i
bits_of_and n m k e i = sym (bit_at_and n m i) ∙ ap (λ x. bit_at x i) e

pub and_from_bits : (n m k : ℕ) → ((i : ℕ) → min (bit_at n i) (bit_at m i) ≡ bit_at k i) → bit_and n m ≡ k
and_from_bits n m k h = same_from_bits (bit_and n m) k (λ i. bit_at_and n m i ∙ h i)

-- bits from 32 up are 0
pub no_high_bit : (n i : ℕ) → n < 2 ^ 32 → bit_at n i ≡ 1 → i < 32
no_high_bit n i small one = grind (arith, bit_at_above n 32 i small)

-- a number that has a bit wherever another does has as many ones
pub ones_mono : (k a b : ℕ) → a < 2 ^ k → ((i : ℕ) → bit_at a i ≤ bit_at b i) → count_ones a ≤ count_ones b
ones_mono zero a b small h = omega (arith, ones-le 0 a small)
ones_mono (suc k) a b small h =
    let low : a % 2 ≤ b % 2 = omega (arith, h 0, bit_at_lowest a, bit_at_lowest b) in
    let half : a / 2 < 2 ^ k = omega (arith, pow-suc 2 k) in
    let high : count_ones (a / 2) ≤ count_ones (b / 2) = ones_mono k (a / 2) (b / 2) half (λ i. omega (arith, h (suc i), bit_at-suc a i, bit_at-suc b i)) in
    omega (arith, ones_step a, ones_step b)
