-- Ternary blocks: the sets of 32-bit keys that an entry of a lookup memory names (SpiNNaker datasheet).
use Rattle.std.specs.Prelude.{◌≡◌, ℕ, ◌<◌, ◌^◌, ◌↔◌, List, [], ◌∷◌, All, fold, bit_and}
use Rattle.std.specs.Int.{bit_at, count_zeros, w32}
use Rattle.std.proofs.Common.{refl, lit<}
use Rattle.spin_base.specs.declared.blocks.Block.{Block}
use Rattle.tern_word.specs.MergeFits.{merge_mask, merge_key, merge_within, merge_small}

-- A key lies in a block where its bits under the mask are the block's key (SpiNNaker datasheet).
abbrev pub Matches : Block → ℕ → Type 0
Matches b k = bit_and k b.mask ≡ b.key

-- some 32-bit key lies in both blocks
pub record Intersects (a b : Block) : Type 0 where
  pub key : ℕ
  pub small : key < 2 ^ 32
  pub first : Matches a key
  pub second : Matches b key

-- each 32-bit key of the first block lies in the second
abbrev pub LiesIn : Block → Block → Type 0
LiesIn inner outer = (k : ℕ) → k < 2 ^ 32 → Matches inner k → Matches outer k

-- A block is as general as the bits that it does not care for: the 0 bits of its mask
-- (Mundy, Heathcote, Garside, HPSR 2016).
unfoldable pub generality : Block → ℕ
generality b = count_zeros w32 b.mask

-- at bit i, only keys whose bit is v lie in the block
pub record Wants (b : Block) (i v : ℕ) : Type 0 where
  pub cares : bit_at b.mask i ≡ 1
  pub value : bit_at b.key i ≡ v

-- A merge wants at a bit what all its members want there, and nothing else: its mask has the bits for which all
-- care and on which all agree, and its key their agreed values (Mundy, Heathcote, Garside, HPSR 2016).
abbrev pub IsMergeOf : List Block → Block → Type 0
IsMergeOf bs m = (i v : ℕ) → (Wants m i v) ↔ (All (λ b. Wants b i v) bs)

-- the merge of two blocks
unfoldable pub merge_two : Block → Block → Block
merge_two a b = record {
  key = merge_key a b;
  mask = merge_mask a b;
  within = merge_within a b;
  small = merge_small a b;
}

-- the block of all keys
abbrev pub all_keys : Block
all_keys = record { key = 0; mask = 0; within = refl; small = lit< tt }

-- the merge of the blocks, of which there is at least one
abbrev pub merge_of : List Block → Block
merge_of [] = all_keys
merge_of (b ∷ bs) = fold merge_two b bs
