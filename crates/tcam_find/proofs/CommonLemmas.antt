-- The bits that entries have in common.
use Rattle.std.proofs.Common.{◌≡◌, ℕ, ◌-◌, ◌^◌, ◌<◌, eqb, min, false, bit_and, ◌≢◌, sym, ap, ◌∙◌, arith}
use Rattle.std.proofs.lemmas.{Bool.eqb-false, Bool.eqb-true, Nat.and_assoc, Nat.and_comm, Nat.and_le_l, Nat.xor_lt, Nat.Bits.bit_at-lt, Nat.Bits.bit_at_and, Nat.Bits.bit_at_not, Nat.Bits.bit_at_xor}
use Rattle.std.proofs.lemmas.Nat.Bits.{same_from_bits_below}
use Rattle.std.specs.Int.{bit_at, bit_not, w32, Bits.and_self, Bits.bit_xor}

-- the bits where two numbers agree
abbrev alike : ℕ → ℕ → ℕ
alike a b = bit_not w32 (bit_xor a b)

agree : (a b : ℕ) → a < 2 ^ 32 → b < 2 ^ 32 → bit_and a (alike a b) ≡ bit_and b (alike a b)
agree a b small_a small_b =
    same_from_bits_below 32 _ _ (omega (arith, small_a, and_le_l a (alike a b))) (omega (arith, small_b, and_le_l b (alike a b)))
    (λ i low. bit_at_and a (alike a b) i ∙ at_bit i low ∙ sym (bit_at_and b (alike a b) i))
  where
    at_bit : (i : ℕ) → i < 32 → min (bit_at a i) (bit_at (alike a b) i) ≡ min (bit_at b i) (bit_at (alike a b) i)
    at_bit i low = grind (arith, bit_at_not w32 (bit_xor a b) i (xor_lt 32 a b small_a small_b) low, xor_lt 32 a b small_a small_b, bit_at_xor a b i, bit_at-lt a i, bit_at-lt b i)

swapped : (a b c : ℕ) → bit_and (bit_and a b) c ≡ bit_and (bit_and a c) b
swapped a b c = and_assoc c a b ∙ ap (bit_and a) (and_comm b c) ∙ sym (and_assoc b a c)

spread : (k a b c : ℕ) → bit_and k (bit_and (bit_and a b) c) ≡ bit_and (bit_and (bit_and k a) b) c
spread k a b c = sym (and_assoc c k (bit_and a b)) ∙ ap (λ n. bit_and n c) (sym (and_assoc b k a))

-- a number within a mask is its own under it
within : (k m n : ℕ) → bit_and k m ≡ n → bit_and n m ≡ n
within k m n is = ap (λ x. bit_and x m) (sym is) ∙ and_assoc m k m ∙ ap (bit_and k) (and_self m) ∙ is

differ : (a b : ℕ) → a ≢ b → eqb a b ≡ false
differ a b other = grind (arith, eqb-true)

apart : (x y a b : ℕ) → (a ≡ b → x ≡ y) → eqb x y ≡ false → eqb a b ≡ false
apart x y a b same other = differ a b (λ equal. eqb-false x y other (same equal))

-- a key that has the values of the common bits has those of fewer of them
pub apart_from_others : (key common value mask x : ℕ)
    → eqb (bit_and key (bit_and (bit_and common mask) x)) (bit_and value (bit_and (bit_and common mask) x)) ≡ false
    → eqb (bit_and key common) value ≡ false
apart_from_others key common value mask x = grind (arith, bit_and key common, spread key common mask x, spread value common mask x, apart, within)

-- and one that an entry matches has those where the entry agrees with them
pub apart_from_entry : (key common value mask e : ℕ) → value < 2 ^ 32 → e < 2 ^ 32
    → eqb (bit_and key (bit_and (bit_and common mask) (alike value e))) (bit_and value (bit_and (bit_and common mask) (alike value e))) ≡ false
    → eqb (bit_and key mask) e ≡ false
apart_from_entry key common value mask e small_value small_e = grind (arith, apart, bit_and, right, x, and_comm, spread, swapped)
  where
    x : ℕ
    x = alike value e

    right : bit_and key mask ≡ e → bit_and value (bit_and (bit_and common mask) x) ≡ bit_and (bit_and e x) common
    right is =
        ap (bit_and value) (and_comm (bit_and common mask) x ∙ sym (and_assoc mask x common))
        ∙ sym (and_assoc mask value (bit_and x common)) ∙ ap (λ n. bit_and n mask) (sym (and_assoc common value x) ∙ ap (λ n. bit_and n common) (agree value e small_value small_e))
        ∙ swapped (bit_and e x) common mask ∙ ap (λ n. bit_and n common) (swapped e x mask ∙ ap (λ n. bit_and n x) (within key mask e is))

-- an entry whose key has bits that its mask lacks matches no key
pub apart_from_none : (key mask e : ℕ) → bit_and e mask ≢ e → eqb (bit_and key mask) e ≡ false
apart_from_none key mask e other = differ (bit_and key mask) e (λ is. other (within key mask e is))
