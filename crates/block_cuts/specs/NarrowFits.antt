-- The key and mask of half a block, and that they are a block's.
use Rattle.std.specs.Prelude.{◌≡◌, ℕ, ◌<◌, ◌^◌, bit_and, bit_or}
use Rattle.std.proofs.Common.{◌∙◌, ap}
use Rattle.std.proofs.Math.Nat.{lt_of_le_of_lt}
use Rattle.std.specs.Int.Bits.{and_self}
use Rattle.std.proofs.lemmas.Nat.{and_le_l, and_assoc, or_lt}
use Rattle.spin_base.specs.declared.blocks.Block.{Block}

-- the bits for which the first cares, and that bit where the second cares for it
abbrev pub narrow_mask : Block → Block → ℕ → ℕ
narrow_mask p e bit = bit_or p.mask (bit_and e.mask bit)

abbrev pub narrow_key : Block → Block → ℕ → ℕ → ℕ
narrow_key p e bit value = bit_and (bit_or p.key value) (narrow_mask p e bit)

pub narrow_within : (p e : Block) (bit value : ℕ) → bit_and (narrow_key p e bit value) (narrow_mask p e bit) ≡ narrow_key p e bit value
narrow_within p e bit value = and_assoc (narrow_mask p e bit) (bit_or p.key value) (narrow_mask p e bit) ∙ ap (bit_and (bit_or p.key value)) (and_self (narrow_mask p e bit))

pub narrow_small : (p e : Block) (bit : ℕ) → narrow_mask p e bit < 2 ^ 32
narrow_small p e bit = or_lt 32 p.mask (bit_and e.mask bit) p.small (lt_of_le_of_lt (and_le_l e.mask bit) e.small)
