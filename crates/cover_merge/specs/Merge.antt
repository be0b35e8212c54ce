-- Merging rows of one route: the table after a merge, when the merge is legal, and the two checks that tell it.
-- Ordered covering is that of Mundy, Heathcote, Garside (HPSR 2016).
use Rattle.std.specs.Prelude.{◌≡◌, ℕ, suc, ◌<◌, ◌≤◌, Bool, true, false, not, List, [], ◌∷◌, ◌++◌, length, take, drop, map, cond, All, AllPairs, count_by, nat_le, ◌==◌, slice_get, slice_index_or, filter_map}
use Rattle.std.specs.List.{flat_map, list_any}
use Rattle.spin_base.specs.declared.blocks.Block.{Block}
use Rattle.spin_base.specs.Outputs.{nothing}
use Rattle.tern_word.specs.declared.tables.Alias.{Alias}
use Rattle.tern_word.specs.declared.tables.Row.{Row}
use Rattle.tern_word.specs.Ternary.{generality, merge_of, all_keys}
use Rattle.tern_word.specs.SoundTable.{Misses, IsSound}

-- whether the place is one of the set
abbrev pub has_row : List ℕ → ℕ → Bool
has_row places k = list_any (λ s. s == k) places

-- the rows at the places, in the order of the places
abbrev pub rows_at : List Row → List ℕ → List Row
rows_at rows places = filter_map (slice_get rows) places

-- their aliases, in the order of the places, each row's in its own order
abbrev pub aliases_at : List Row → List ℕ → List Alias
aliases_at rows places = flat_map (λ (r : Row). r.aliases) (rows_at rows places)

-- the items whose places, counted from i, pass the test
abbrev pub picked : {X : Type 0} → (ℕ → Bool) → ℕ → List X → List X
picked q i [] = []
picked q i (x ∷ xs) = cond (q i) (x ∷ picked q (suc i) xs) (picked q (suc i) xs)

-- the rows outside the set; the places are counted from i
abbrev pub kept : List ℕ → ℕ → List Row → List Row
kept places i rows = picked (λ k. not (has_row places k)) i rows

-- The merge of rows of one route has the merge of their blocks, their route, and their aliases in the order of the
-- rows.
abbrev pub merge_rows : List Row → Row
merge_rows [] = record { block = all_keys; route = nothing; aliases = [] }
merge_rows (r ∷ rows) = record {
  block = merge_of (map (λ (x : Row). x.block) (r ∷ rows));
  route = r.route;
  aliases = flat_map (λ (x : Row). x.aliases) (r ∷ rows);
}

-- the merge of the rows at the places
abbrev pub merged_row : List Row → List ℕ → Row
merged_row rows places = merge_rows (rows_at rows places)

-- the merge of their blocks
abbrev pub merged_block : List Row → List ℕ → Block
merged_block rows places = merge_of (map (λ (x : Row). x.block) (rows_at rows places))

-- the number of rows of lesser or equal generality
abbrev pub place_for : List Row → ℕ → ℕ
place_for rows g = count_by (λ (r : Row). nat_le (generality r.block) g) rows

-- The merge goes where all rows of lesser or equal generality stand before it, so that more special rows are found
-- first.
abbrev pub insert_place : List Row → List ℕ → ℕ
insert_place rows places = place_for rows (generality (merged_block rows places))

-- The table after a merge: without the rows of the set, and with the merge before the row at its insertion place.
abbrev pub after : List Row → List ℕ → List Row
after rows places =
    kept places 0 (take (insert_place rows places) rows)
    ++ merged_row rows places ∷ kept places (insert_place rows places) (drop (insert_place rows places) rows)

-- the rows at the places have one route
abbrev pub SameRoute : List Row → ℕ → ℕ → Type 0
SameRoute rows s t = (d : Row) → (slice_index_or rows s d).route ≡ (slice_index_or rows t d).route

-- places in ascending order, each that of a row, and the rows of one route
pub record IsOneRoute (rows : List Row) (places : List ℕ) : Type 0 where
  pub ascending : AllPairs (λ s t. s < t) places
  pub in_range : All (λ s. s < length rows) places
  pub one_route : AllPairs (SameRoute rows) places

-- A set that can be merged: at least two places of one route.
pub record IsMergeSet (rows : List Row) (places : List ℕ) : Type 0 where
  pub set : IsOneRoute rows places
  pub two : 2 ≤ length places

-- A merge is legal where the table after it is sound.
abbrev pub IsLegal : List Row → List ℕ → Type 0
IsLegal rows places = IsSound (after rows places)

-- the rows at the places make a legal merge, with this block
pub record IsLegalMerge (rows : List Row) (places : List ℕ) (b : Block) : Type 0 where
  pub set : IsMergeSet rows places
  pub legal : IsLegal rows places
  pub block : b ≡ merged_block rows places

-- row r is of the set, or its block meets no alias of row s
abbrev pub IsClearOf : List Row → List ℕ → ℕ → ℕ → Type 0
IsClearOf rows places s r =
    (d : Row) → has_row places r ≡ false → Misses (slice_index_or rows r d).block (slice_index_or rows s d)

-- no row outside the set between place s and p meets an alias of row s
abbrev pub PassesUp : List Row → List ℕ → ℕ → ℕ → Type 0
PassesUp rows places s p = (r : ℕ) → s < r → r < p → IsClearOf rows places s r

-- The up-check: no row of the set loses keys to a row that comes to stand before the merge.
abbrev pub PassesUpCheck : List Row → List ℕ → Type 0
PassesUpCheck rows places = (s : ℕ) → has_row places s ≡ true → PassesUp rows places s (insert_place rows places)

-- the block meets no alias of a row at or after p
abbrev pub PassesDown : List Row → Block → ℕ → Type 0
PassesDown rows b p = (r : ℕ) (d : Row) → p ≤ r → r < length rows → Misses b (slice_index_or rows r d)

-- The down-check: no row that comes to stand behind the merge loses keys to it.
abbrev pub PassesDownCheck : List Row → List ℕ → Type 0
PassesDownCheck rows places = PassesDown rows (merged_block rows places) (insert_place rows places)
