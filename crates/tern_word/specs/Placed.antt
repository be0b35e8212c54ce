-- What makes a table sound, row by row.
use Rattle.std.specs.Prelude.{ℕ, ◌<◌, ◌≤◌, List, length, slice_index_or}
use Rattle.tern_word.specs.declared.tables.Row.{Row}
use Rattle.tern_word.specs.Ternary.{generality}
use Rattle.tern_word.specs.SoundTable.{Misses, HoldsItsAliases}

-- a row is no more general than a later one, and meets no alias of it
abbrev pub MayStandBefore : Row → Row → Type 0
MayStandBefore first later = (generality first.block ≤ generality later.block) × Misses first.block later

-- the row may stand before each later one
abbrev pub StandsBeforeAll : List Row → ℕ → Type 0
StandsBeforeAll rows at =
    (later : ℕ) (d : Row) → at < later → later < length rows → MayStandBefore (slice_index_or rows at d) (slice_index_or rows later d)

-- it does, and holds its aliases
abbrev pub IsWellPlaced : List Row → ℕ → Type 0
IsWellPlaced rows at = ((d : Row) → HoldsItsAliases (slice_index_or rows at d)) × StandsBeforeAll rows at
