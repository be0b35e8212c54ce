-- Blocks of keys that a job fixes for its nets (SpiNNaker datasheet; which may be fixed is this project's own).
use Rattle.std.specs.Prelude.{◌≡◌, ℕ, ◌+◌, ◌-◌, ◌%◌, ◌<◌, ◌≤◌, ◌^◌, Bool, ◌&&◌, ◌==◌, nat_le, Option, Some, None, bit_and, bit_xor}
use Rattle.std.specs.Int.{is_power_of_two}
use Rattle.std.specs.Int.Bits.{and_self}
use Rattle.std.proofs.Common.{◌∙◌, ap, lit<}
use Rattle.std.proofs.lemmas.Nat.{and_assoc, mod_below}
use Rattle.spin_base.specs.declared.blocks.Block.{Block}

-- Key and mask have 32 bits. The mask is ones followed by some number of zeros, which may be 0 or 32: then 2^32 less the mask
-- is a power of two, the number of the block's keys. The key has no bit outside the mask, and there are enough keys.
abbrev pub may_be_fixed : ℕ → ℕ × ℕ → Bool
may_be_fixed keys p =
    nat_le p.0 4294967295 && nat_le p.1 4294967295 && is_power_of_two (4294967296 - p.1) && (bit_and p.0 p.1 == p.0) && nat_le keys (4294967296 - p.1)

-- the low 32 bits of a mask
abbrev pub mask_from : ℕ → ℕ
mask_from mask = mask % 4294967296

pub mask_below : (mask : ℕ) → mask_from mask < 2 ^ 32
mask_below mask = mod_below mask 4294967296 (lit< tt)

pub key_within : (key mask : ℕ) → bit_and (bit_and key (mask_from mask)) (mask_from mask) ≡ bit_and key (mask_from mask)
key_within key mask = and_assoc (mask_from mask) key (mask_from mask) ∙ ap (bit_and key) (and_self (mask_from mask))

-- The block of a key and a mask: of a key that has bits outside the mask, that of the bits inside.
unfoldable pub block_at : ℕ → ℕ → Block
block_at key mask = record {
  key = bit_and key (mask_from mask);
  mask = mask_from mask;
  within = key_within key mask;
  small = mask_below mask;
}

abbrev pub block_from : Option (ℕ × ℕ) → Block
block_from None = block_at 0 0
block_from (Some p) = block_at p.0 p.1

-- Two blocks share a key where they agree on the bits for which both care.
abbrev pub shares_key : Block → Block → Bool
shares_key a b = bit_and (bit_and (bit_xor a.key b.key) a.mask) b.mask == 0

-- A block whose mask is ones followed by some number of zeros has the keys from its first to its last.
abbrev pub IsRange : Block → Type 0
IsRange b = (zeros : ℕ) × (zeros ≤ 32) × (b.mask + 2 ^ zeros ≡ 2 ^ 32)

-- the last key of a range
abbrev pub last_key_of : Block → ℕ
last_key_of b = b.key + (4294967295 - b.mask)
