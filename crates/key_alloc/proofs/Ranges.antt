-- Laws for who gives out ranges: which numbers a range has, the room for one more, and what is free once more is taken.
use Rattle.key_alloc.proofs.Common.{Bool, arith, clash, div_below, false, in_range, mul-le-mul_right, nat_tests, not, pow-add, pow_pos, suc-mul, true, ℕ, ◌&&◌, ◌*◌, ◌+◌, ◌-◌, ◌/◌, ◌<◌, ◌^◌, ◌||◌, ◌≡◌}
use Rattle.key_alloc.proofs.Common.{◌≤◌}

-- ---- the numbers of a range

pub in_facts : (p s k : ℕ) → in_range p s k ≡ true → (p ≤ k) × (k < p + s)
in_facts p s k e = (grind (arith, nat_tests), grind (arith, nat_tests))

pub in_from : (p s k : ℕ) → p ≤ k → k < p + s → in_range p s k ≡ true
in_from p s k a b = grind (arith, nat_tests)

-- a multiple of a power of two below a greater one leaves room for as many
pub room_above : (z n : ℕ) → z ≤ 32 → n < 2 ^ 32 → n / 2 ^ z * 2 ^ z ≡ n → n + 2 ^ z ≤ 2 ^ 32
room_above z n le small whole = grind (arith, pow-add 2 (32 - z) z, pow_pos z, suc-mul (n / 2 ^ z) (2 ^ z), div_below, mul-le-mul_right)

-- ---- what is free

-- what is there and not taken is free
pub free_of : (a b : Bool) → a ≡ true → b ≡ false → (a && not b) ≡ true
free_of a b p q = grind (arith, clash)

-- what is free of two in turn is free of both
pub regroup : (a b c : Bool) → ((a && not b) && not c) ≡ (a && not (b || (c || false)))
regroup a b c = grind arith
