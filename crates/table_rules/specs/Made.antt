-- The table that is made of rows, each with the blocks for whose keys it decides as aliases (this project's own).
use Rattle.std.specs.Prelude.{◌≡◌, ℕ, ◌-◌, ◌<◌, List, [], ◌∷◌, ◌++◌, Some, None, length, map, insert}
use Rattle.spin_base.specs.declared.blocks.Block.{Block}
use Rattle.spin_base.specs.declared.chips.Port.{Port}
use Rattle.tern_word.specs.declared.tables.Alias.{Alias}
use Rattle.tern_word.specs.declared.tables.Row.{Row}
use Rattle.tern_word.specs.Ternary.{generality}
use Rattle.cover_merge.specs.Merge.{place_for, PassesDown}
use Rattle.block_cuts.specs.Cuts.{cut}
use Rattle.table_rules.specs.declared.rows.RoutedBlock.{RoutedBlock}

-- a piece as an alias of packets that come in by the port
abbrev pub alias_of : Port → Block → Alias
alias_of port piece = record { block = piece; port = port }

-- a row with its pieces as aliases
abbrev pub whole_row : RoutedBlock → List Block → Row
whole_row given pieces = record { block = given.block; route = given.route; aliases = map (alias_of given.port) pieces }

-- a piece as a row
abbrev pub piece_row : RoutedBlock → Block → Row
piece_row given piece = record { block = piece; route = given.route; aliases = alias_of given.port piece ∷ [] }

-- the rows with one more, which stands behind all that are at most as general
abbrev pub with_row : List Row → Row → List Row
with_row rows row = insert rows (place_for rows (generality row.block)) row

-- the rows with more, one after another
abbrev pub with_rows : List Row → List Row → List Row
with_rows rows [] = rows
with_rows rows (r ∷ more) = with_rows (with_row rows r) more

-- the block meets no alias of a more general row
abbrev pub StandsBefore : Block → List Row → Type 0
StandsBefore block rows = PassesDown rows block (place_for rows (generality block))

-- The rows with one more given: it is left out where it decides for no key. It has its pieces as aliases where its block meets no
-- alias of a more general row, and else each piece is a row of its own.
pub data IsRowAdded (rows : List Row) (given : RoutedBlock) (pieces : List Block) : List Row → Type 0 where
  left_out : pieces ≡ [] → IsRowAdded rows given pieces rows
  whole : 0 < length pieces → StandsBefore given.block rows → IsRowAdded rows given pieces (with_row rows (whole_row given pieces))
  in_pieces : 0 < length pieces → (StandsBefore given.block rows → ⊥) → IsRowAdded rows given pieces (with_rows rows (map (piece_row given) pieces))

abbrev pub row_blocks : List RoutedBlock → List Block
row_blocks rows = map (λ (r : RoutedBlock). r.block) rows

-- The table's rows after the rows that are still to be put, with what room is left for pieces, the rows that were put, and the
-- table's rows so far. The pieces of a row are its block less those of the rows before it.
pub data IsTableFrom : ℕ → List RoutedBlock → List Row → List RoutedBlock → List Row → Type 0 where
  done : (room : ℕ) (before : List RoutedBlock) (rows : List Row) → IsTableFrom room before rows [] rows
  more : (room : ℕ) (before : List RoutedBlock) (rows : List Row) (given : RoutedBlock) (rest : List RoutedBlock) (pieces : List Block) (next table : List Row)
      → cut room given.block (row_blocks before) ≡ Some pieces → IsRowAdded rows given pieces next
      → IsTableFrom (room - length pieces) (before ++ given ∷ []) next rest table → IsTableFrom room before rows (given ∷ rest) table

-- the table that is made of rows
abbrev pub IsTableMadeOf : ℕ → List RoutedBlock → List Row → Type 0
IsTableMadeOf room given table = IsTableFrom room [] [] given table

-- a row is cut into more pieces than there is room for
pub data HasTooManyPieces : ℕ → List RoutedBlock → List RoutedBlock → Type 0 where
  here : (room : ℕ) (before : List RoutedBlock) (given : RoutedBlock) (rest : List RoutedBlock) → cut room given.block (row_blocks before) ≡ None → HasTooManyPieces room before (given ∷ rest)
  later : (room : ℕ) (before : List RoutedBlock) (given : RoutedBlock) (rest : List RoutedBlock) (pieces : List Block) → cut room given.block (row_blocks before) ≡ Some pieces
      → HasTooManyPieces (room - length pieces) (before ++ given ∷ []) rest → HasTooManyPieces room before (given ∷ rest)
