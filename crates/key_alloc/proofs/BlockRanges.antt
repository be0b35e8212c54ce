-- A net's block has the keys of a range, also where it is fixed.
use Rattle.key_alloc.proofs.Common.{Block, IfSome, Intersects, IsBlockFor, IsFixedFor, IsLeastBlock, List, MatchOption, Matches, MissesRange, Net, None, Option, Some, and_high_mask, arith, bit_and}
use Rattle.key_alloc.proofs.Common.{exponent_le, key_small, pow_pos, range_keys, shr_split, size_of, subst, sym, ℕ, ◌%◌, ◌*◌, ◌+◌, ◌-◌, ◌/◌, ◌<◌, ◌^◌, ◌↔◌, ◌≡◌, ◌≤◌}
use Rattle.key_alloc.proofs.Ranges.{room_above, in_from}

-- the block's keys are those from its key on, as many as its size
pub record IsRange (b : Block) : Type 0 where
  pub some : 0 < size_of b
  pub aligned : b.key % size_of b ≡ 0
  pub within : b.key + size_of b ≤ 2 ^ 32
  pub keys : (k : ℕ) → k < 2 ^ 32 → Matches b k ↔ ((b.key ≤ k) × (k < b.key + size_of b))

range_from_aligned : (b : Block) (e : ℕ) → size_of b ≡ 2 ^ e → b.key % size_of b ≡ 0 → b.key + size_of b ≤ 2 ^ 32 → IsRange b
range_from_aligned b e is at_multiple within =
    let fits = exponent_le e (subst (λ s. s ≤ 2 ^ 32) is (omega arith)) in
    let aligned = subst (λ s. b.key % s ≡ 0) is at_multiple in
    let mask : b.mask ≡ 2 ^ 32 - size_of b = omega (arith, b.small) in
    let ranged = range_keys e b.key fits aligned (key_small b) in
    let P : ℕ → Type 0 = λ m. (k : ℕ) → k < 2 ^ 32 → (bit_and k m ≡ b.key) ↔ ((b.key ≤ k) × (k < b.key + size_of b)) in
    let Q : ℕ → Type 0 = λ s. (k : ℕ) → k < 2 ^ 32 → (bit_and k (2 ^ 32 - s) ≡ b.key) ↔ ((b.key ≤ k) × (k < b.key + s)) in
    record { some = omega (arith, is, pow_pos e); aligned = at_multiple; within = within; keys = subst P (sym mask) (subst Q (sym is) ranged) }

pub range_of_least : (taken : List Block) (keys : ℕ) (b : Block) → IsLeastBlock taken keys b → IsRange b
range_of_least taken keys b least = range_from_aligned b least.size.power.0 least.size.power.1 least.may.aligned least.may.within

module _ (keys : ℕ) (b : Block) (fixed : IsFixedFor keys b) where
  size_is : size_of b ≡ 2 ^ fixed.0
  size_is = let sum = fixed.2 in omega (arith, sum)

  whole_there : b.key / 2 ^ fixed.0 * 2 ^ fixed.0 ≡ b.key
  whole_there = grind (arith, and_high_mask 32 fixed.0 fixed.1 b.key (key_small b), key_small b)

  pub range_of_fixed : IsRange b
  range_of_fixed = grind (arith, shr_split b.key fixed.0, whole_there, room_above fixed.0 b.key fixed.1 (key_small b) whole_there, key_small b, size_is, range_from_aligned)

  pub fixed_enough : keys ≤ size_of b
  fixed_enough = let many = fixed.3 in omega (arith, many, size_is)

-- the block of a net is a range of enough keys
pub range_of_block : (taken : List Block) (net : Net) (b : Block) → IfSome net.fixed (IsFixedFor net.keys) → IsBlockFor taken net b → IsRange b × (net.keys ≤ size_of b)
range_of_block taken net b = by_fixed net.fixed
  where
    by_fixed : (o : Option Block) → IfSome o (IsFixedFor net.keys) → MatchOption o (IsLeastBlock taken net.keys b) (λ f. b ≡ f) → IsRange b × (net.keys ≤ size_of b)
    by_fixed None fixed least = (range_of_least taken net.keys b least, least.size.enough)
    by_fixed (Some f) fixed is = subst (λ x. IsRange x × (net.keys ≤ size_of x)) (sym is) (range_of_fixed net.keys f fixed, fixed_enough net.keys f fixed)

-- ---- ranges that share no key

-- and the other way round
pub apart_missed : (a b : Block) → IsRange a → IsRange b → MissesRange b.key (size_of b) a → Intersects a b → ⊥
apart_missed a b range_a range_b miss meet =
    let at_a = (range_a.keys meet.key meet.small).0 meet.first in
    let at_b = (range_b.keys meet.key meet.small).0 meet.second in
    miss meet.key (in_from a.key (size_of a) meet.key at_a.0 at_a.1) (in_from b.key (size_of b) meet.key at_b.0 at_b.1)
