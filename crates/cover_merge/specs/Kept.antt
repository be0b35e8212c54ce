-- What is kept of a route from merge to merge. It saves refining the rows of a route anew where a merge left them alone.
use Rattle.std.specs.Prelude.{◌≡◌, ◌≢◌, ℕ, ◌<◌, ◌≤◌, ◌⊎◌, true, List, [], MatchOption, Option, length, slice_index_or}
use Rattle.spin_base.specs.declared.blocks.Block.{Block}
use Rattle.tern_word.specs.declared.tables.Row.{Row}
use Rattle.tern_word.specs.Ternary.{Intersects, LiesIn, generality}
use Rattle.tern_word.specs.SoundTable.{Misses}
use Rattle.cover_merge.specs.Merge.{has_row, merged_block, IsOneRoute, PassesUpCheck, PassesDownCheck}
use Rattle.cover_merge.specs.Refinement.{IsUpStep, IsDownStep}
use Rattle.cover_merge.specs.Covering.{places_of}

-- The places refine to the answer, and each block that is down-checked on the way lies in `outer` and is at least as
-- general as `low`.
pub data RefinesWithin (rows : List Row) (outer : Block) (low : ℕ) : List ℕ → List ℕ → Type 0 where
  ends_empty : (places : List ℕ) → length places < 2 → RefinesWithin rows outer low places []
  ends_legal : (places : List ℕ) → 2 ≤ length places → PassesUpCheck rows places → PassesDownCheck rows places
      → LiesIn (merged_block rows places) outer → low ≤ generality (merged_block rows places) → RefinesWithin rows outer low places places
  goes_up : (places next answer : List ℕ) → 2 ≤ length places → IsUpStep rows places next → RefinesWithin rows outer low next answer
      → RefinesWithin rows outer low places answer
  goes_down : (places next answer : List ℕ) → 2 ≤ length places → IsDownStep rows places next → LiesIn (merged_block rows places) outer
      → low ≤ generality (merged_block rows places) → RefinesWithin rows outer low next answer → RefinesWithin rows outer low places answer

-- What is kept of a route: how many places the refined set of its rows has, and bounds of the blocks that were
-- down-checked for it.
pub record IsKept (rows : List Row) (bits size : ℕ) (outer : Block) (low : ℕ) : Type 0 where
  pub set : List ℕ
  pub refined : RefinesWithin rows outer low (places_of bits 0 rows) set
  pub size_is : length set ≡ size

-- Steps of refinement lead from places to others, and each block that is down-checked on the way is within the same
-- bounds.
pub data LeadsWithin (rows : List Row) (outer : Block) (low : ℕ) : List ℕ → List ℕ → Type 0 where
  stands : (places : List ℕ) → LeadsWithin rows outer low places places
  leads_up : (places next last : List ℕ) → 2 ≤ length places → IsUpStep rows places next → LeadsWithin rows outer low next last
      → LeadsWithin rows outer low places last
  leads_down : (places next last : List ℕ) → 2 ≤ length places → IsDownStep rows places next → LiesIn (merged_block rows places) outer
      → low ≤ generality (merged_block rows places) → LeadsWithin rows outer low next last → LeadsWithin rows outer low places last

-- Places for which the up-check fails were taken out. The merge of those that are left is known where they are two or more.
pub record IsSifted (rows : List Row) (old new : List ℕ) (found : Option Block) : Type 0 where
  pub one_route : IsOneRoute rows new
  pub steps : (outer : Block) (low : ℕ) → LeadsWithin rows outer low old new
  pub found_is : MatchOption found (length new < 2) (λ merged. (2 ≤ length new) × (merged ≡ merged_block rows new) × (PassesUpCheck rows new))

-- Steps lead from the places at the start to those of the set. Where `low` is at most 32, a block was down-checked: `outer`
-- is the first and `low` the generality of the last, and the merge of the set lies in the one and is no more general than
-- the other.
pub record IsGone (rows : List Row) (start set : List ℕ) (outer : Block) (low : ℕ) : Type 0 where
  pub leads : (wide : Block) (least : ℕ) → (low ≤ 32 → LiesIn outer wide) → least ≤ low → LeadsWithin rows wide least start set
  pub within : low ≤ 32 → 0 < length set → (LiesIn (merged_block rows set) outer) × (generality (merged_block rows set) ≤ low)
