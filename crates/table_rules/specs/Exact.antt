-- Shorter rows that have no new keys (this project's own).
use Rattle.std.specs.Prelude.{◌≡◌, ◌==◌, ℕ, ◌<◌, ◌≤◌, ◌^◌, List, [], ◌∷◌, ◌++◌, All, length}
use Rattle.std.specs.List.{before_first}
use Rattle.spin_base.specs.declared.chips.Port.TheVariants.{Local}
use Rattle.spin_base.specs.declared.routes.Route.{Route}
use Rattle.tern_word.specs.declared.tables.Row.{Row}
use Rattle.tern_word.specs.Ternary.{all_keys}
use Rattle.table_rules.specs.declared.rows.RoutedBlock.{RoutedBlock}
use Rattle.table_rules.specs.Made.{HasTooManyPieces}
use Rattle.table_rules.specs.Pairs.{others, pieces_of}
use Rattle.table_rules.specs.Shortened.{AreLeft, IsCoveredFrom, IsShorterOf}

-- no row has a route of these bits
abbrev pub IsFree : List RoutedBlock → ℕ → Type 0
IsFree rows bits = All (λ (r : RoutedBlock). r.route.bits ≡ bits → ⊥) rows

-- each route of bits below the number is one of some row
abbrev pub HasAllRoutes : ℕ → List RoutedBlock → Type 0
HasAllRoutes routes rows = (bits : ℕ) → bits < routes → IsFree rows bits → ⊥

-- a row of all keys
abbrev pub wall_of : Route → RoutedBlock
wall_of route = record { block = all_keys; route = route; port = Local }

-- The rows with a wall behind them. It decides for the keys that no row has, so no merge may have one of them.
abbrev pub walled : List RoutedBlock → Route → List RoutedBlock
walled given route = given ++ wall_of route ∷ []

-- the rows before the first whose route has these bits
abbrev pub rows_before : ℕ → List Row → List Row
rows_before bits rows = before_first (λ (r : Row). r.route.bits == bits) rows

-- the covered table that is made of the given rows and a wall, whose route no row has
pub record IsCoveredWithin (target room : ℕ) (given : List RoutedBlock) (route : Route) (rows : List Row) : Type 0 where
  pub long : target < length given
  pub free : IsFree given route.bits
  pub covered : IsCoveredFrom target room (walled given route) rows

-- its rows before the wall that default routing does not replace, or those of its pieces joined by pairs, of which the wall's give
-- no row
pub record IsShortWithin (target room : ℕ) (given new : List RoutedBlock) : Type 0 where
  pub route : Route
  pub rows : List Row
  pub within : IsCoveredWithin target room given route rows
  pub left : List RoutedBlock
  pub are_left : AreLeft (rows_before route.bits rows) left
  pub shorter : IsShorterOf target (others route (pieces_of within.covered.table)) (pieces_of within.covered.table) left new

-- A table of at most target rows is its own, as is one whose rows have all routes. Else it is covered with a wall, and has the rows
-- before that which default routing does not replace, or its pieces are joined; and where that is no shorter, it is its own.
pub data IsShortenedWithin (target room : ℕ) (given : List RoutedBlock) : List RoutedBlock → Type 0 where
  short : length given ≤ target → IsShortenedWithin target room given given
  no_route : target < length given → HasAllRoutes (2 ^ 24) given → IsShortenedWithin target room given given
  shorter : (new : List RoutedBlock) → IsShortWithin target room given new → length new < length given → IsShortenedWithin target room given new
  no_shorter : (new : List RoutedBlock) → IsShortWithin target room given new → length given ≤ length new → IsShortenedWithin target room given given

-- the rows of a table that is longer than wanted, and a wall of a route that no row has, are cut into too many pieces
pub record AreTooManyWithin (target room : ℕ) (given : List RoutedBlock) : Type 0 where
  pub long : target < length given
  pub route : Route
  pub free : IsFree given route.bits
  pub many : HasTooManyPieces room [] (walled given route)
