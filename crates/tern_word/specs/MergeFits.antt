-- The key and mask of the merge of two blocks, and that they are a block's.
use Rattle.std.specs.Prelude.{◌≡◌, ℕ, ◌<◌, ◌^◌, bit_and, bit_xor}
use Rattle.std.specs.Int.{bit_not, w32}
use Rattle.std.proofs.Common.{◌∙◌, ap}
use Rattle.std.proofs.Math.Nat.{lt_of_le_of_lt}
use Rattle.std.specs.Int.Bits.{and_self}
use Rattle.std.proofs.lemmas.Nat.{and_le_l, and_assoc}
use Rattle.spin_base.specs.declared.blocks.Block.{Block}

-- the bits for which both care and on which they agree
abbrev pub merge_mask : Block → Block → ℕ
merge_mask a b = bit_and (bit_and a.mask b.mask) (bit_not w32 (bit_xor a.key b.key))

-- the agreed bits
abbrev pub merge_key : Block → Block → ℕ
merge_key a b = bit_and a.key (merge_mask a b)

pub merge_within : (a b : Block) → bit_and (merge_key a b) (merge_mask a b) ≡ merge_key a b
merge_within a b = and_assoc (merge_mask a b) a.key (merge_mask a b) ∙ ap (bit_and a.key) (and_self (merge_mask a b))

pub merge_small : (a b : Block) → merge_mask a b < 2 ^ 32
merge_small a b = lt_of_le_of_lt (and_le_l (bit_and a.mask b.mask) (bit_not w32 (bit_xor a.key b.key))) (lt_of_le_of_lt (and_le_l a.mask b.mask) a.small)
