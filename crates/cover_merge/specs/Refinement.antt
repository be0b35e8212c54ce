-- The refined set of places of one route: what stays of it until its merge is legal
-- (after Mundy, Heathcote, Garside, HPSR 2016; the ties are this project's own).
use Rattle.std.specs.Prelude.{◌≡◌, ℕ, ◌+◌, ◌<◌, ◌≤◌, ◌⊎◌, ◌==◌, ◌&&◌, not, Bool, true, false, if◌then◌else◌, List, [], length, filter, take, slice_get, slice_index_or, Some}
use Rattle.std.specs.Int.{bit_at}
use Rattle.std.specs.Option.{option_map_or}
use Rattle.spin_base.specs.declared.blocks.Block.{Block}
use Rattle.tern_word.specs.declared.tables.Alias.{Alias}
use Rattle.tern_word.specs.declared.tables.Row.{Row}
use Rattle.tern_word.specs.Ternary.{Intersects}
use Rattle.tern_word.specs.SoundTable.{Misses}
use Rattle.cover_merge.specs.Merge.{has_row, merged_block, insert_place, IsMergeSet, PassesUp, PassesUpCheck, PassesDownCheck}

-- the greatest place of the set for which the up-check with insertion place p fails
pub record IsLastFailing (rows : List Row) (places : List ℕ) (p s : ℕ) : Type 0 where
  pub member : has_row places s ≡ true
  pub failing : PassesUp rows places s p → ⊥
  pub behind : (t : ℕ) → has_row places t ≡ true → s < t → PassesUp rows places t p

-- for each place of the set the merge of the rows up to it
pub record AreMerges (rows : List Row) (places : List ℕ) (merges : List Block) : Type 0 where
  pub one_each : length merges ≡ length places
  pub each : (k : ℕ) (d : Block) → k < length merges → slice_index_or merges k d ≡ merged_block rows (take (k + 1) places)

-- the set without the place
abbrev pub set_without : ℕ → List ℕ → List ℕ
set_without s places = filter (λ t. not (t == s)) places

-- Where the up-check fails, the greatest place for which it fails is taken out.
pub record IsUpStep (rows : List Row) (old new : List ℕ) : Type 0 where
  pub place : ℕ
  pub last : IsLastFailing rows old (insert_place rows old) place
  pub result : new ≡ set_without place old

-- a set that can be merged, of which the up-check is true, and the merge of its blocks
pub record IsUpChecked (rows : List Row) (places : List ℕ) (b : Block) : Type 0 where
  pub set : IsMergeSet rows places
  pub merged : b ≡ merged_block rows places
  pub up : PassesUpCheck rows places

-- the block of the first of the aliases that the block b meets
pub record IsFirstMet (b : Block) (aliases : List Alias) (met : Block) : Type 0 where
  pub at : ℕ
  pub alias : Alias
  pub found : slice_get aliases at ≡ Some alias
  pub block : alias.block ≡ met
  pub meets : Intersects b met
  pub before : (k : ℕ) (d : Alias) → k < at → Intersects b (slice_index_or aliases k d).block → ⊥

-- the same of the first row at or after p that has an alias which b meets
pub record IsFirstMetFrom (rows : List Row) (b : Block) (p : ℕ) (met : Block) : Type 0 where
  pub at : ℕ
  pub row : Row
  pub from : p ≤ at
  pub found : slice_get rows at ≡ Some row
  pub first : IsFirstMet b row.aliases met
  pub before : (r : ℕ) (d : Row) → p ≤ r → r < at → Misses b (slice_index_or rows r d)

-- The bits to choose from are those for which the merge does not care and the met alias does.
unfoldable pub can_choose : Block → Block → ℕ → Bool
can_choose merged met i = (bit_at merged.mask i == 0) && (bit_at met.mask i == 1)

-- the block cares for the bit and has there the other value than the met alias
unfoldable pub parts : Block → Block → ℕ → Bool
parts b met i = (bit_at b.mask i == 1) && not (bit_at b.key i == bit_at met.key i)

-- A bit keeps the places whose block it parts from the met alias.
abbrev pub keeps : List Row → Block → ℕ → ℕ → Bool
keeps rows met i s = option_map_or (λ (r : Row). parts r.block met i) (slice_get rows s) false

-- the places that the bit keeps
abbrev pub kept_by : List Row → Block → ℕ → List ℕ → List ℕ
kept_by rows met i places = filter (keeps rows met i) places

-- how many places the bit keeps, and none where it cannot be chosen
abbrev pub kept_count : List Row → List ℕ → Block → Block → ℕ → ℕ
kept_count rows places merged met i = if can_choose merged met i then length (kept_by rows met i places) else 0

-- the bit that keeps most places, of equal ones the highest
pub record IsBestBit (rows : List Row) (places : List ℕ) (merged met : Block) (i : ℕ) : Type 0 where
  pub some : 0 < kept_count rows places merged met i
  pub most : (j : ℕ) → j < 32 → kept_count rows places merged met j ≤ kept_count rows places merged met i
  pub highest : (j : ℕ) → j < 32 → i < j → kept_count rows places merged met j < kept_count rows places merged met i

-- The places that the best bit keeps stay, and none where no bit keeps one.
abbrev pub IsNarrowed : List Row → List ℕ → Block → Block → List ℕ → Type 0
IsNarrowed rows old merged met new =
    ((i : ℕ) × (i < 32) × (IsBestBit rows old merged met i) × (new ≡ kept_by rows met i old))
    ⊎ (((j : ℕ) → j < 32 → kept_count rows old merged met j ≡ 0) × (new ≡ []))

-- Where the up-check is true and the down-check fails, the best bit against the first alias met narrows the set.
pub record IsDownStep (rows : List Row) (old new : List ℕ) : Type 0 where
  pub up : PassesUpCheck rows old
  pub met : Block
  pub first : IsFirstMetFrom rows (merged_block rows old) (insert_place rows old) met
  pub narrowed : IsNarrowed rows old (merged_block rows old) met new

-- The rules of refinement: fewer than two places give none, a set that passes both checks is the answer, and any
-- other goes on as the set after a step.
pub data Refines (rows : List Row) : List ℕ → List ℕ → Type 0 where
  ends_empty : (places : List ℕ) → length places < 2 → Refines rows places []
  ends_legal : (places : List ℕ) → 2 ≤ length places → PassesUpCheck rows places → PassesDownCheck rows places → Refines rows places places
  goes_up : (places next answer : List ℕ) → 2 ≤ length places → IsUpStep rows places next → Refines rows next answer → Refines rows places answer
  goes_down : (places next answer : List ℕ) → 2 ≤ length places → IsDownStep rows places next → Refines rows next answer → Refines rows places answer
