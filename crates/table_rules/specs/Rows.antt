-- Rows of a table, of which the first that has a key decides (SpiNNaker datasheet).
use Rattle.std.specs.Prelude.{◌≡◌, ◌==◌, ℕ, ◌<◌, ◌^◌, Bool, List, Option, Some, None, find, bit_and}
use Rattle.spin_base.specs.declared.chips.Dir.{Dir}
use Rattle.spin_base.specs.declared.chips.Port.{Port}
use Rattle.spin_base.specs.declared.chips.Port.TheVariants.{Link, Local}
use Rattle.spin_base.specs.declared.routes.Route.{Route}
use Rattle.spin_base.specs.Lookup.{straight_on}
use Rattle.tern_word.specs.declared.tables.Row.{Row}
use Rattle.table_rules.specs.declared.rows.RoutedBlock.{RoutedBlock}

-- whether a row has the key
abbrev pub takes_key : ℕ → RoutedBlock → Bool
takes_key k r = bit_and k r.block.mask == r.block.key

-- the first row that has the key
abbrev pub first_with : List RoutedBlock → ℕ → Option RoutedBlock
first_with rows k = find (takes_key k) rows

-- there is a first row that has the key, and it has the route
pub record GoesBy (rows : List RoutedBlock) (k : ℕ) (route : Route) : Type 0 where
  pub row : RoutedBlock
  pub first : first_with rows k ≡ Some row
  pub by : row.route ≡ route

-- Packets with the key that come in by the port go out by the route: the first row that has the key has the route; or none has it, and
-- they come by a link, and the route is the one by which they then go straight on (default routing, SpiNNaker datasheet).
pub data LeaveBy (rows : List RoutedBlock) (k : ℕ) (port : Port) (route : Route) : Type 0 where
  by_row : GoesBy rows k route → LeaveBy rows k port route
  by_default : (arrival : Dir) → port ≡ Link arrival → route ≡ straight_on arrival → first_with rows k ≡ None → LeaveBy rows k port route

-- For each key that some of the given rows has, where the first that has it decides, its packets go out by that row's route (this
-- project's own). Of packets that come by no link, or of which nothing is told, a new row has the key.
abbrev pub KeepsRoutes : List RoutedBlock → List RoutedBlock → Type 0
KeepsRoutes given new = (k : ℕ) (row : RoutedBlock) → k < 2 ^ 32 → first_with given k ≡ Some row → LeaveBy new k row.port row.route

-- A key that none of the given rows has is one that none of the new rows has (this project's own).
abbrev pub HasNoNewKeys : List RoutedBlock → List RoutedBlock → Type 0
HasNoNewKeys given new = (k : ℕ) → k < 2 ^ 32 → first_with given k ≡ None → first_with new k ≡ None

-- a row without its aliases, of whose packets nothing is told
abbrev pub routed : Row → RoutedBlock
routed r = record { block = r.block; route = r.route; port = Local }
