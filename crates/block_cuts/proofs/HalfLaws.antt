-- Which keys the halves of a block have.
use Rattle.std.proofs.Common.{◌≡◌, ℕ, ◌-◌, ◌^◌, ◌<◌, ◌⊎◌, ◌==◌, true, false, min, max, inl, inr, sym, ap, ◌∙◌, arith}
use Rattle.std.specs.{Prelude.bit_and, Prelude.bit_or, Prelude.bit_xor, Int.bit_at}
use Rattle.std.proofs.lemmas.{Bool.eq-eqb, Bool.Decides.eqb_tells, Nat.pow_pos, Nat.Bits.and_pow, Nat.Bits.bit_at_and, Nat.Bits.bit_at_or, Nat.Bits.bit_at_xor, Nat.Bits.bit_at-lt}
use Rattle.std.proofs.lemmas.Nat.Bits.{bit_at-pow_same, bit_at-pow_other}
use Rattle.spin_base.specs.declared.blocks.Block.{Block}
use Rattle.tern_word.specs.Ternary.{Matches, Intersects, Wants}
use Rattle.tern_word.proofs.BlockLaws.{Matches-wants, Matches-from_wants, meet_where_agree, agree_where_meet}
use Rattle.block_cuts.specs.{Cuts.meets, Cuts.narrow, Cuts.own_half, Cuts.other_half, Cuts.is_cut_at, NarrowFits.narrow_mask, NarrowFits.narrow_key}

-- a number has a bit, or has it not
bit_is : (n i : ℕ) → (bit_at n i ≡ 1) ⊎ (bit_at n i ≡ 0)
bit_is n i = grind (arith, bit_at-lt n i)

-- the key of a block has no bit outside the mask
key_bit : (b : Block) (i : ℕ) → min (bit_at b.key i) (bit_at b.mask i) ≡ bit_at b.key i
key_bit b i = sym (bit_at_and b.key b.mask i) ∙ ap (λ x. bit_at x i) b.within

-- ---- a half under a value that has no bit but this one

module _ (p e : Block) (i v w : ℕ) (free : bit_at p.mask i ≡ 0) (cares : bit_at e.mask i ≡ 1) (here : bit_at v i ≡ w) (small : w < 2) (elsewhere : (j : ℕ) → (j ≡ i → ⊥) → bit_at v j ≡ 0) where
  mask_bits : (j : ℕ) → bit_at (narrow_mask p e (2 ^ i)) j ≡ max (bit_at p.mask j) (min (bit_at e.mask j) (bit_at (2 ^ i) j))
  mask_bits j = bit_at_or p.mask (bit_and e.mask (2 ^ i)) j ∙ ap (max (bit_at p.mask j)) (bit_at_and e.mask (2 ^ i) j)

  key_bits : (j : ℕ) → bit_at (narrow_key p e (2 ^ i) v) j ≡ min (max (bit_at p.key j) (bit_at v j)) (bit_at (narrow_mask p e (2 ^ i)) j)
  key_bits j = bit_at_and (bit_or p.key v) (narrow_mask p e (2 ^ i)) j ∙ ap (λ x. min x (bit_at (narrow_mask p e (2 ^ i)) j)) (bit_at_or p.key v j)

  half_here : Wants (narrow p e (2 ^ i) v) i w
  unfolding narrow
  half_here = grind (arith, mask_bits i, bit_at-pow_same i, key_bits i, key_bit p i)

  half_wants : (j x : ℕ) → Wants p j x → Wants (narrow p e (2 ^ i) v) j x
  unfolding narrow
  half_wants j x want = grind (arith, mask_bits j, bit_at-lt e.mask j, key_bits j, bit_at-lt p.key j, bit_at-pow_other)

  wants_half : (j x : ℕ) → Wants (narrow p e (2 ^ i) v) j x → ((j ≡ i) × (x ≡ w)) ⊎ Wants p j x
  unfolding narrow
  wants_half j x want = elim (eqb_tells j i) [
    | inl same ↦ inl (same.1, sym want.value ∙ (ap (bit_at (narrow_key p e (2 ^ i) v)) same.1 ∙ half_here.value))
    | inr other ↦
        let on : bit_at p.mask j ≡ 1 = omega (arith, mask_bits j, want.cares, bit_at-pow_other i j other.1, bit_at-lt p.mask j, bit_at-lt e.mask j) in
        inr (record { cares = on; value = omega (arith, key_bits j, want.cares, want.value, elsewhere j other.1, bit_at-lt p.key j) })
  ]

  half_in : (k : ℕ) → Matches (narrow p e (2 ^ i) v) k → Matches p k
  half_in k m = Matches-from_wants p k (λ j x want. Matches-wants (narrow p e (2 ^ i) v) k j x m (half_wants j x want))

  half_bit : (k : ℕ) → Matches (narrow p e (2 ^ i) v) k → bit_at k i ≡ w
  half_bit k m = Matches-wants (narrow p e (2 ^ i) v) k i w m half_here

  half_has : (k : ℕ) → Matches p k → bit_at k i ≡ w → Matches (narrow p e (2 ^ i) v) k
  half_has k m bit = Matches-from_wants _ _ (λ j x want. elim (wants_half j x want) [ inl this ↦ ap (bit_at k) this.0 ∙ (bit ∙ sym this.1) | inr of_p ↦ Matches-wants p k j x m of_p ])

-- ---- the two halves

module _ (p e : Block) (i : ℕ) (free : bit_at p.mask i ≡ 0) (cares : bit_at e.mask i ≡ 1) where
  own_value : bit_at (bit_and e.key (2 ^ i)) i ≡ bit_at e.key i
  own_value = omega (arith, bit_at_and e.key (2 ^ i) i, bit_at-pow_same i, bit_at-lt e.key i)

  own_else : (j : ℕ) → (j ≡ i → ⊥) → bit_at (bit_and e.key (2 ^ i)) j ≡ 0
  own_else j other = omega (arith, bit_at_and e.key (2 ^ i) j, bit_at-pow_other i j other)

  other_value : bit_at (bit_and (bit_xor e.mask e.key) (2 ^ i)) i ≡ 1 - bit_at e.key i
  other_value = omega (arith, bit_at_and (bit_xor e.mask e.key) (2 ^ i) i, bit_at_xor e.mask e.key i, cares, bit_at-pow_same i, bit_at-lt e.key i)

  other_else : (j : ℕ) → (j ≡ i → ⊥) → bit_at (bit_and (bit_xor e.mask e.key) (2 ^ i)) j ≡ 0
  other_else j other = omega (arith, bit_at_and (bit_xor e.mask e.key) (2 ^ i) j, bit_at-pow_other i j other)

  pub own_in : (k : ℕ) → Matches (own_half p e (2 ^ i)) k → Matches p k
  own_in k m = half_in p e i _ (bit_at e.key i) free cares own_value (bit_at-lt e.key i) own_else k m

  pub own_bit : (k : ℕ) → Matches (own_half p e (2 ^ i)) k → bit_at k i ≡ bit_at e.key i
  own_bit k m = half_bit p e i _ (bit_at e.key i) free cares own_value (bit_at-lt e.key i) own_else k m

  pub own_has : (k : ℕ) → Matches p k → bit_at k i ≡ bit_at e.key i → Matches (own_half p e (2 ^ i)) k
  own_has k m bit = half_has p e i _ (bit_at e.key i) free cares own_value (bit_at-lt e.key i) own_else k m bit

  pub own_wants_here : Wants (own_half p e (2 ^ i)) i (bit_at e.key i)
  own_wants_here = half_here p e i _ (bit_at e.key i) free cares own_value (bit_at-lt e.key i) own_else

  pub own_wants : (j x : ℕ) → Wants p j x → Wants (own_half p e (2 ^ i)) j x
  own_wants j x want = half_wants p e i _ (bit_at e.key i) free cares own_value (bit_at-lt e.key i) own_else j x want

  pub wants_own : (j x : ℕ) → Wants (own_half p e (2 ^ i)) j x → ((j ≡ i) × (x ≡ bit_at e.key i)) ⊎ Wants p j x
  wants_own j x want = wants_half p e i _ (bit_at e.key i) free cares own_value (bit_at-lt e.key i) own_else j x want

  pub other_in : (k : ℕ) → Matches (other_half p e (2 ^ i)) k → Matches p k
  other_in k m = half_in p e i _ (1 - bit_at e.key i) free cares other_value (omega arith) other_else k m

  pub other_bit : (k : ℕ) → Matches (other_half p e (2 ^ i)) k → bit_at k i ≡ 1 - bit_at e.key i
  other_bit k m = half_bit p e i _ (1 - bit_at e.key i) free cares other_value (omega arith) other_else k m

  pub other_has : (k : ℕ) → Matches p k → bit_at k i ≡ 1 - bit_at e.key i → Matches (other_half p e (2 ^ i)) k
  other_has k m bit = half_has p e i _ (1 - bit_at e.key i) free cares other_value (omega arith) other_else k m bit

-- ---- tests

bit_test : (n i : ℕ) → (((bit_and n (2 ^ i) == 0) ≡ true) × (bit_at n i ≡ 0)) ⊎ (((bit_and n (2 ^ i) == 0) ≡ false) × (bit_at n i ≡ 1))
bit_test n i = grind (arith, bit_is n i, eqb_tells (bit_and n (2 ^ i)) 0, and_pow n i, pow_pos i, eq-eqb)

pub cut_cases : (p e : Block) (i : ℕ) → ((is_cut_at p e (2 ^ i) ≡ true) × (bit_at p.mask i ≡ 0) × (bit_at e.mask i ≡ 1)) ⊎ ((is_cut_at p e (2 ^ i) ≡ false) × ((bit_at p.mask i ≡ 1) ⊎ (bit_at e.mask i ≡ 0)))
cut_cases p e i = grind (arith, bit_test p.mask i, bit_test e.mask i)

pub meets_tells : (a b : Block) → ((meets a b ≡ true) × Intersects a b) ⊎ ((meets a b ≡ false) × (Intersects a b → ⊥))
meets_tells a b = grind (arith, eqb_tells (bit_and (bit_and (bit_xor a.key b.key) a.mask) b.mask) 0, meet_where_agree, agree_where_meet)
