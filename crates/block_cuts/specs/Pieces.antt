-- What pieces of a block are (this project's own).
use Rattle.std.specs.Prelude.{ℕ, ◌<◌, ◌^◌, List, All, AllPairs}
use Rattle.std.specs.List.{Contains}
use Rattle.spin_base.specs.declared.blocks.Block.{Block}
use Rattle.tern_word.specs.Ternary.{Matches, Intersects, LiesIn}

-- none of the blocks has the key
abbrev pub NoneHas : List Block → ℕ → Type 0
NoneHas blocks k = All (λ (e : Block). Matches e k → ⊥) blocks

-- one of the pieces has the key
pub record HasPiece (pieces : List Block) (k : ℕ) : Type 0 where
  pub piece : Block
  pub among : Contains pieces piece
  pub has : Matches piece k

-- The pieces are the block less the others: each lies in the block, none of them meets one of the others, each key of the block that
-- none of the others has is in a piece, and no two pieces meet.
pub record ArePieces (block : Block) (others pieces : List Block) : Type 0 where
  pub inside : All (λ (p : Block). LiesIn p block) pieces
  pub clear : All (λ (p : Block). (k : ℕ) → k < 2 ^ 32 → Matches p k → NoneHas others k) pieces
  pub whole : (k : ℕ) → k < 2 ^ 32 → Matches block k → NoneHas others k → HasPiece pieces k
  pub apart : AllPairs (λ (p q : Block). Intersects p q → ⊥) pieces
