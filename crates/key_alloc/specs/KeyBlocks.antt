-- Which blocks of keys nets have (this project's own).
use Rattle.std.specs.Prelude.{◌≡◌, ℕ, ◌+◌, ◌-◌, ◌%◌, ◌^◌, ◌<◌, ◌≤◌, true, List, ◌++◌, length, take, All, None, Some, MatchOption, slice_get}
use Rattle.std.specs.Int.{IsPowerOfTwo}
use Rattle.std.specs.List.{filter_map}
use Rattle.spin_base.specs.declared.blocks.Block.{Block}
use Rattle.app_graph.specs.declared.graphs.Net.{Net}
use Rattle.range_store.specs.Regions.{in_range}
use Rattle.tern_word.specs.Ternary.{Matches}

-- A block whose mask has all bits from one up to the highest has the keys from its own key on, so many of them.
abbrev pub size_of : Block → ℕ
size_of b = 2 ^ 32 - b.mask

-- The size for a number of keys is the least power of two not below it.
pub record IsSizeFor (keys size : ℕ) : Type 0 where
  pub power : IsPowerOfTwo size
  pub enough : keys ≤ size
  pub least : (p : ℕ) → IsPowerOfTwo p → keys ≤ p → size ≤ p

-- no key is in the block's range and also in that of size keys from a place on
abbrev pub MissesRange : ℕ → ℕ → Block → Type 0
MissesRange place size b = (k : ℕ) → in_range b.key (size_of b) k ≡ true → in_range place size k ≡ true → ⊥

-- the blocks that are fixed for nets, in the order of the nets that have one
abbrev pub fixed_of : List Net → List Block
fixed_of nets = filter_map (λ (n : Net). n.fixed) nets

-- A net may have a range that begins at a multiple of its size, ends at or below 2^32, and meets none of the taken blocks.
pub record IsOpenPlace (taken : List Block) (size place : ℕ) : Type 0 where
  pub aligned : place % size ≡ 0
  pub within : place + size ≤ 2 ^ 32
  pub apart : All (MissesRange place size) taken

-- The least block for so many keys has the size for them, and begins at the least place from which the range is open.
pub record IsLeastBlock (taken : List Block) (keys : ℕ) (b : Block) : Type 0 where
  pub size : IsSizeFor keys (size_of b)
  pub may : IsOpenPlace taken (size_of b) b.key
  pub least : (place : ℕ) → IsOpenPlace taken (size_of b) place → b.key ≤ place

-- A net has the block that is fixed for it, or else the least block for its keys.
abbrev pub IsBlockFor : List Block → Net → Block → Type 0
IsBlockFor taken net b = MatchOption net.fixed (IsLeastBlock taken net.keys b) (λ fixed. b ≡ fixed)

-- The right blocks of the first nets, as many as there are blocks: for each net the fixed blocks of all nets, earlier and
-- later, and the blocks of the nets before it are taken.
pub record AreFirstBlocks (nets : List Net) (blocks : List Block) : Type 0 where
  pub few : length blocks ≤ length nets
  pub each : (i : ℕ) (net : Net) (b : Block) → slice_get nets i ≡ Some net → slice_get blocks i ≡ Some b
      → IsBlockFor (fixed_of nets ++ take i blocks) net b

-- the right blocks of all nets
pub record AreRightBlocks (nets : List Net) (blocks : List Block) : Type 0 where
  pub first : AreFirstBlocks nets blocks
  pub all : length blocks ≡ length nets

-- Keys are out at a net where the nets before it have right blocks, no block is fixed for it, and there is no range that it
-- may have.
pub record AreKeysOut (nets : List Net) (i : ℕ) : Type 0 where
  pub blocks : List Block
  pub before : AreFirstBlocks nets blocks
  pub here : length blocks ≡ i
  pub net : Net
  pub is : slice_get nets i ≡ Some net
  pub free : net.fixed ≡ None
  pub none : (size place : ℕ) → IsSizeFor net.keys size → IsOpenPlace (fixed_of nets ++ blocks) size place → ⊥

-- each key of a net, the block's key and one of the numbers below the net's keys added, is a 32-bit key of the block
abbrev pub HasKeys : Net → Block → Type 0
HasKeys net b = (index : ℕ) → index < net.keys → (b.key + index < 2 ^ 32) × Matches b (b.key + index)
