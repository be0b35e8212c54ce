-- Shorter rows (this project's own).
use Rattle.std.specs.Prelude.{◌≡◌, ℕ, ◌<◌, ◌≤◌, List, length, map}
use Rattle.tern_word.specs.declared.tables.Row.{Row}
use Rattle.cover_merge.specs.Covering.{Covers}
use Rattle.cover_merge.specs.Merge.{rows_at}
use Rattle.default_routes.specs.KeptRows.{AreKept}
use Rattle.table_rules.specs.declared.rows.RoutedBlock.{RoutedBlock}
use Rattle.table_rules.specs.Made.{IsTableMadeOf}
use Rattle.table_rules.specs.Pairs.{AreJoinedRows, pieces_of}
use Rattle.table_rules.specs.Rows.{routed}

-- the rows of the covered table that is made of the given rows
pub record IsCoveredFrom (target room : ℕ) (given : List RoutedBlock) (rows : List Row) : Type 0 where
  pub long : target < length given
  pub table : List Row
  pub made : IsTableMadeOf room given table
  pub sets : List (List ℕ)
  pub covered : Covers target table sets rows

-- the rows that default routing does not replace, without their aliases
pub record AreLeft (rows : List Row) (left : List RoutedBlock) : Type 0 where
  pub places : List ℕ
  pub kept : AreKept rows places
  pub are : left ≡ map routed (rows_at rows places)

-- The covered rows that are left, or those of the pieces joined by pairs, where these are fewer. Pieces are joined only where the
-- covered rows are more than wanted, and the pieces at most 2,048.
pub data IsShorterOf (target : ℕ) (own pieces covered : List RoutedBlock) : List RoutedBlock → Type 0 where
  few : length covered ≤ target → IsShorterOf target own pieces covered covered
  many : 2048 < length pieces → IsShorterOf target own pieces covered covered
  no_fewer : (joined : List RoutedBlock) → AreJoinedRows own pieces joined → length covered ≤ length joined → IsShorterOf target own pieces covered covered
  fewer : (joined : List RoutedBlock) → target < length covered → length pieces ≤ 2048 → AreJoinedRows own pieces joined → length joined < length covered → IsShorterOf target own pieces covered joined

-- the rows that are left of the covered table that is made of the given rows, or those of its pieces joined by pairs
pub record IsShortFrom (target room : ℕ) (given new : List RoutedBlock) : Type 0 where
  pub rows : List Row
  pub from : IsCoveredFrom target room given rows
  pub left : List RoutedBlock
  pub are_left : AreLeft rows left
  pub shorter : IsShorterOf target (pieces_of from.table) (pieces_of from.table) left new

-- A table of at most target rows is its own. Else it is covered, and the rows that default routing replaces are left out, or its
-- pieces are joined; and where that is no shorter, it is its own.
pub data IsShortenedTo (target room : ℕ) (given : List RoutedBlock) : List RoutedBlock → Type 0 where
  short : length given ≤ target → IsShortenedTo target room given given
  shorter : (new : List RoutedBlock) → IsShortFrom target room given new → length new < length given → IsShortenedTo target room given new
  no_shorter : (new : List RoutedBlock) → IsShortFrom target room given new → length given ≤ length new → IsShortenedTo target room given given
