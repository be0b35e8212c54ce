-- Powers of two by their ones, and the block of a key and a mask.
use Rattle.job_readers.proofs.Common.{IsPowerOfTwo, ap, arith, cases_lt, count_ones, eqb-true, exponent_le, inl, inr, is_power_of_two, ones-le, ones_cat, pow_more, suc, sym, true, zero}
use Rattle.job_readers.proofs.Common.{zero_from_ones, ℕ, ◌%◌, ◌*◌, ◌+◌, ◌-◌, ◌/◌, ◌<◌, ◌^◌, ◌∙◌, ◌≡◌, ◌≤◌}

-- a number with one 1 is a power of two
power_from_ones : (d n : ℕ) → n < 2 ^ d → count_ones n ≡ 1 → IsPowerOfTwo n
power_from_ones zero n below one = absurd (omega (arith, ones-le 0 n below))
power_from_ones (suc d) n below one =
    let split : n / 2 * 2 ^ 1 + n % 2 ≡ n = omega arith in
    let counted : count_ones n ≡ count_ones (n / 2) + count_ones (n % 2) = ap count_ones (sym split) ∙ ones_cat 1 (n / 2) (n % 2) (omega arith) in
    elim (cases_lt 0 (count_ones (n / 2))) [
      | inl some ↦ (
          let last : n % 2 ≡ 0 = zero_from_ones (n % 2) (omega (arith, counted)) in
          let half = power_from_ones d (n / 2) (omega (arith, pow_more 2 d)) (omega (arith, counted)) in
          (half.0 + 1, omega (arith, half.1, last, pow_more 2 half.0))
          )
      | inr none ↦ (
          let first : n / 2 ≡ 0 = zero_from_ones (n / 2) (omega arith) in
          let low : 1 ≤ n = elim (cases_lt 0 n) [ inl some ↦ some | inr empty ↦ (let no : n ≡ 0 = omega arith in absurd (omega (arith, ones-le 0 n (omega (arith, no))))) ] in
          (0, omega arith)
          )
    ]

-- a block whose number of keys is a power of two may be fixed
pub fixed_for : (keys mask : ℕ) → mask ≤ 4294967295 → is_power_of_two (4294967296 - mask) ≡ true → keys ≤ 4294967296 - mask → (zeros : ℕ) × (zeros ≤ 32) × (mask + 2 ^ zeros ≡ 2 ^ 32) × (keys ≤ 2 ^ zeros)
fixed_for keys mask small power enough =
    let p = power_from_ones 33 (4294967296 - mask) (omega arith) (eqb-true _ _ power) in
    let within : 2 ^ p.0 ≤ 2 ^ 32 = omega (arith, p.1) in
    (p.0, exponent_le p.0 within, omega (arith, p.1), omega (arith, p.1))
