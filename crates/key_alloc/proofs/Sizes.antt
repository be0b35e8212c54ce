-- The size for a number of keys.
use Rattle.key_alloc.proofs.Common.{IsPowerOfTwo, IsSizeFor, arith, cases_lt, inl, inr, max, pow_mono, pow_more, refl, ℕ, ◌*◌, ◌+◌, ◌/◌, ◌<◌, ◌^◌, ◌≡◌, ◌≤◌}

-- a power of two below another is at most half of it
half : (i j : ℕ) → 2 ^ i < 2 ^ j → 2 ^ i * 2 ≤ 2 ^ j
half i j lt =
    elim (cases_lt i j) [
      | inl less ↦ (let up : 2 ^ (i + 1) ≤ 2 ^ j = pow_mono (omega arith) in omega (arith, up, pow_more 2 i))
      | inr more ↦ (let down : 2 ^ j ≤ 2 ^ i = pow_mono more in absurd (omega (arith, down, lt)))
    ]

-- a power of two that is not below the number, and whose half is
pub size_from_half : (keys s : ℕ) → 1 ≤ keys → IsPowerOfTwo s → keys ≤ s → s / 2 < max 1 keys → IsSizeFor keys s
size_from_half keys s some power enough half_below = grind (arith, cases_lt, half)

pub size_within : (keys s : ℕ) → keys ≤ 4294967296 → IsSizeFor keys s → s ≤ 4294967296
size_within keys s few is = is.least 4294967296 (32, refl) few

pub one_size : (keys s t : ℕ) → IsSizeFor keys s → IsSizeFor keys t → s ≡ t
one_size keys s t a b = omega (arith, a.least t b.power b.enough, b.least s a.power a.enough)
