-- What a contract sees of fixed blocks in order, and what their map keeps.
use Rattle.std.specs.Prelude.{◌≡◌, ℕ, ◌<◌, List, All, Contains, Option, Some}
use Rattle.std.specs.Ordering.{nat_cmp}
use Rattle.std.specs.BTreeMap.{get}
use Rattle.spin_base.specs.declared.blocks.Block.{Block}
use Rattle.job_readers.specs.declared.fixed_blocks.FixedBlocks.TheInside.{Inside}
use Rattle.job_readers.specs.Blocks.{IsRange, last_key_of}

abbrev pub blocks_listed : Inside → List Block
blocks_listed s = s.listed.items

-- Blocks that are ranges, and what tells by a last key the first: of each block it does so, of no other last key, and no range that
-- it tells of reaches down to one that ends before it.
pub record AreRanges (blocks : List Block) (first_at : ℕ → Option ℕ) : Type 0 where
  pub ranges : All IsRange blocks
  pub told : All (λ b. first_at (last_key_of b) ≡ Some b.key) blocks
  pub known : (last first : ℕ) → first_at last ≡ Some first → (b : Block) × Contains blocks b × (b.key ≡ first) × (last_key_of b ≡ last)
  pub apart : (low high first second : ℕ) → first_at low ≡ Some first → first_at high ≡ Some second → low < high → low < second

abbrev pub KeepsRanges : Inside → Type 0
KeepsRanges s = AreRanges (blocks_listed s) (get nat_cmp s.firsts)
