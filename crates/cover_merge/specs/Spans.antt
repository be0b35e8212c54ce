-- Spans: blocks around aliases of a row. They save looking at aliases that lie far from a block.
use Rattle.std.specs.Prelude.{◌≡◌, ℕ, ◌+◌, ◌*◌, ◌<◌, ◌≤◌, List, [], length, slice_index_or}
use Rattle.spin_base.specs.declared.blocks.Block.{Block}
use Rattle.tern_word.specs.declared.tables.Alias.{Alias}
use Rattle.tern_word.specs.declared.tables.Row.{Row}
use Rattle.tern_word.specs.Ternary.{Intersects, LiesIn}

-- In each span lie thirty-two aliases, one after another; those behind the last one have none.
pub record AreSpansOf (aliases : List Alias) (spans : List Block) : Type 0 where
  pub enough : length spans * 32 ≤ length aliases
  pub each : (k i : ℕ) (a : Alias) (b : Block) → k < length spans → k * 32 ≤ i → i < k * 32 + 32 → LiesIn (slice_index_or aliases i a).block (slice_index_or spans k b)

-- for each row those of its aliases
pub record AreSpansOfAll (rows : List Row) (spans : List (List Block)) : Type 0 where
  pub one_each : length spans ≡ length rows
  pub each : (s : ℕ) (d : Row) → s < length rows → AreSpansOf (slice_index_or rows s d).aliases (slice_index_or spans s [])

-- the block meets no alias from one place up to another
abbrev pub IsFreeUpTo : Block → List Alias → ℕ → ℕ → Type 0
IsFreeUpTo block aliases from to = (i : ℕ) (a : Alias) → from ≤ i → i < to → Intersects block (slice_index_or aliases i a).block → ⊥

-- the first alias from one place up to another that the block meets is at this place
pub record IsFirstAt (block : Block) (aliases : List Alias) (from to at : ℕ) : Type 0 where
  pub begins : from ≤ at
  pub ends : at < to
  pub meets : (a : Alias) → Intersects block (slice_index_or aliases at a).block
  pub before : IsFreeUpTo block aliases from at
