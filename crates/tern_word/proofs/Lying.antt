-- When the keys of one block all lie in another.
use Rattle.std.proofs.Common.{◌≡◌, ℕ, ◌-◌, ◌^◌, ◌<◌, min, max, ap, ◌∙◌, arith, inl, inr}
use Rattle.std.specs.{Prelude.bit_and, Prelude.bit_or, Int.bit_at, Int.bit_not, Int.w32}
use Rattle.std.proofs.lemmas.{Bool.cases_lt, Nat.or_lt, Nat.Bits.bit_at_or, Nat.Bits.bit_at_not, Nat.Bits.bit_at-lt, Nat.Bits.bit_at_above}
use Rattle.spin_base.specs.declared.blocks.Block.{Block}
use Rattle.tern_word.specs.Ternary.{Matches, LiesIn}
use Rattle.tern_word.proofs.{Bits.bits_of_and, Bits.and_from_bits, BlockLaws.key_small}

pub lies_from_masks : (inner outer : Block) → bit_and inner.mask outer.mask ≡ outer.mask → bit_and inner.key outer.mask ≡ outer.key → LiesIn inner outer
lies_from_masks inner outer masks keys k small m =
    and_from_bits _ _ _
    (λ i. omega (arith, bits_of_and _ _ _ masks i, bits_of_and _ _ _ keys i, bits_of_and _ _ _ m i, bit_at-lt k i, bit_at-lt inner.mask i, bit_at-lt outer.mask i))

pub keys_from_lies : (inner outer : Block) → LiesIn inner outer → bit_and inner.key outer.mask ≡ outer.key
keys_from_lies inner outer lies = lies inner.key (key_small inner) inner.within

module _ (inner outer : Block) (lies : LiesIn inner outer) where
  -- the key that has a 1 wherever the inner block does not care
  free : ℕ
  free = bit_or inner.key (bit_not w32 inner.mask)

  low_bit : (i : ℕ) → i < 32 → bit_at free i ≡ max (bit_at inner.key i) (1 - bit_at inner.mask i)
  unfolding free
  low_bit i low = bit_at_or inner.key (bit_not w32 inner.mask) i ∙ ap (max (bit_at inner.key i)) (bit_at_not w32 inner.mask i inner.small low)

  free_small : free < 2 ^ 32
  unfolding free
  free_small = or_lt 32 inner.key (bit_not w32 inner.mask) (key_small inner) (omega arith)

  matches : Matches inner free
  matches = and_from_bits _ _ _ each
    where
      each : (i : ℕ) → min (bit_at free i) (bit_at inner.mask i) ≡ bit_at inner.key i
      each i =
          elim (cases_lt i 32) [
            | inl low ↦ omega (arith, low_bit i low, bits_of_and _ _ _ inner.within i, bit_at-lt inner.key i, bit_at-lt inner.mask i)
            | inr high ↦ omega (arith, bit_at_above free 32 i free_small high, bit_at_above inner.key 32 i (key_small inner) high)
          ]

  pub masks_from_lies : bit_and inner.mask outer.mask ≡ outer.mask
  masks_from_lies = and_from_bits _ _ _ each
    where
      each : (i : ℕ) → min (bit_at inner.mask i) (bit_at outer.mask i) ≡ bit_at outer.mask i
      each i =
          elim (cases_lt i 32) [
            | inl low ↦ omega (
              arith,
              low_bit i low,
              bits_of_and _ _ _ (lies free free_small matches) i,
              bits_of_and _ _ _ (keys_from_lies inner outer lies) i,
              bits_of_and _ _ _ inner.within i,
              bit_at-lt inner.key i,
              bit_at-lt inner.mask i,
              bit_at-lt outer.mask i,
            )
            | inr high ↦ omega (arith, bit_at_above outer.mask 32 i outer.small high)
          ]
