-- Which keys are free while blocks are taken, as the private functions say it.
use Rattle.std.specs.Prelude.{◌≡◌, ℕ, ◌+◌, ◌<◌, ◌≤◌, ◌⊎◌, Bool, not, ◌&&◌, nat_lt, ◌-◌, List, length, All, AllPairs, Option, None, Some, slice_get}
use Rattle.std.specs.List.{Contains, list_any}
use Rattle.spin_base.specs.declared.blocks.Block.{Block}
use Rattle.range_store.specs.Regions.{AreRuns, is_free, in_range}
use Rattle.key_alloc.specs.declared.free.FreeKeys.{FreeKeys}
use Rattle.key_alloc.specs.declared.free.Start.{Start}
use Rattle.key_alloc.specs.KeyBlocks.{size_of, IsOpenPlace}

-- the key is in the block's range
abbrev pub has_key : ℕ → Block → Bool
has_key k b = in_range b.key (size_of b) k

-- blocks from the greatest down: each ends before those that stand before it
abbrev pub AreDownwards : List Block → Type 0
AreDownwards blocks = AllPairs (λ (a b : Block). b.key + size_of b ≤ a.key) blocks

-- each block has a key, and ends at or below 2^32
abbrev pub HaveRanges : List Block → Type 0
HaveRanges blocks = All (λ (b : Block). (0 < size_of b) × (b.key + size_of b ≤ 4294967296)) blocks

-- a block's first key, or the end of all keys where there is no block
abbrev pub key_or_end : Option Block → ℕ
key_or_end None = 4294967296
key_or_end (Some b) = b.key

-- the first key of the last block, or the end of all keys where there is none
abbrev pub end_of_run : List Block → ℕ
end_of_run ahead = key_or_end (slice_get ahead (length ahead - 1))

-- Of the blocks that are taken, those that end beyond the frontier are the blocks ahead, which begin at or beyond it.
pub record AreAhead (taken ahead : List Block) (frontier : ℕ) : Type 0 where
  pub behind : All (λ (b : Block). (b.key + size_of b ≤ frontier) ⊎ Contains ahead b) taken
  pub beyond : All (λ (b : Block). (frontier ≤ b.key) × Contains taken b) ahead
  pub ranges : HaveRanges ahead
  pub downwards : AreDownwards ahead

-- each open range of a start's size begins at its place or behind it
abbrev pub AreStarts : List Block → List Start → Type 0
AreStarts taken starts = All (λ (s : Start). (place : ℕ) → IsOpenPlace taken s.keys place → s.place ≤ place) starts

-- A key below the frontier is free where it is in the range of no block that is taken. No range that a net may have has keys
-- on both sides of the frontier.
pub record AreKeysFreeBeside (taken : List Block) (state : FreeKeys) : Type 0 where
  pub runs : AreRuns 0 4294967296 state.below.holes
  pub size : state.below.size ≡ 4294967296
  pub limit : state.frontier ≤ 4294967296
  pub free : (k : ℕ) → is_free state.below.holes k ≡ (nat_lt k state.frontier && not (list_any (has_key k) taken))
  pub ahead : AreAhead taken state.ahead.items state.frontier
  pub whole : (size place : ℕ) → IsOpenPlace taken size place → place < state.frontier → place + size ≤ state.frontier
  pub starts : AreStarts taken state.starts

-- they are the free keys beside some blocks
abbrev pub AreFreeBesideSome : FreeKeys → Type 0
AreFreeBesideSome free = (taken : List Block) × AreKeysFreeBeside taken free

-- the least place from which a range of so many keys is open
pub record IsLeastOpenPlace (taken : List Block) (size place : ℕ) : Type 0 where
  pub may : IsOpenPlace taken size place
  pub least : (other : ℕ) → IsOpenPlace taken size other → place ≤ other
