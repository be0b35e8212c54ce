-- Shorter tables, one for each given (this project's own).
use Rattle.std.specs.Prelude.{◌≡◌, ℕ, ◌<◌, ◌≤◌, ◌^◌, Bool, true, false, nat_lt, List, [], ◌∷◌, MatchBool, Some, None, find, length, map}
use Rattle.std.specs.List.{list_any}
use Rattle.spin_base.specs.declared.blocks.Entry.{Entry}
use Rattle.spin_base.specs.declared.chips.Chip.{Chip}
use Rattle.spin_base.specs.declared.chips.Dir.{Dir}
use Rattle.spin_base.specs.declared.chips.Port.{Port}
use Rattle.spin_base.specs.declared.chips.Port.TheVariants.{Link}
use Rattle.spin_base.specs.declared.routes.Route.{Route}
use Rattle.spin_base.specs.Lookup.{matches, straight_on}
use Rattle.table_rules.specs.declared.rows.RoutedBlock.{RoutedBlock}
use Rattle.table_rules.specs.Exact.{AreTooManyWithin, IsShortenedWithin}
use Rattle.table_rules.specs.Made.{HasTooManyPieces}
use Rattle.table_rules.specs.Rows.{first_with}
use Rattle.table_rules.specs.Shortened.{IsShortenedTo}
use Rattle.table_readers.specs.declared.asking.GivenTable.{GivenTable}
use Rattle.table_text.specs.declared.writing.ShortTable.{ShortTable}

-- the entry that a row is
abbrev pub entry_at : RoutedBlock → Entry
entry_at r = record { key = r.block.key; mask = r.block.mask; route = r.route }

-- the table of a chip with these rows, and whether it is as it was given
abbrev pub short_at : Chip → List RoutedBlock → Bool → ShortTable
short_at chip rows kept = record { table = record { chip = chip; entries = map entry_at rows }; kept = kept }

-- the rows that a table is shortened to, cut into at most 262,144 pieces: with no new keys, or as they come
abbrev pub AreShortRows : ℕ → Bool → List RoutedBlock → List RoutedBlock → Type 0
AreShortRows target exact given rows = MatchBool exact (IsShortenedWithin target 262144 given rows) (IsShortenedTo target 262144 given rows)

-- they are cut into more
abbrev pub AreTooManyPieces : ℕ → Bool → List RoutedBlock → Type 0
AreTooManyPieces target exact given = MatchBool exact (AreTooManyWithin target 262144 given) ((target < length given) × HasTooManyPieces 262144 [] given)

-- A table is shortened. Where its rows would be cut into too many pieces, it is as it was given, and said to be so.
pub data IsShorter (target : ℕ) (exact : Bool) (given : GivenTable) : ShortTable → Type 0 where
  shortened : (rows : List RoutedBlock) → AreShortRows target exact given.rows rows → IsShorter target exact given (short_at given.chip rows false)
  as_given : AreTooManyPieces target exact given.rows → IsShorter target exact given (short_at given.chip given.rows true)

-- there is a first entry that matches the key, and it has the route
pub record IsSentBy (entries : List Entry) (k : ℕ) (route : Route) : Type 0 where
  pub entry : Entry
  pub first : find (λ (e : Entry). matches e k) entries ≡ Some entry
  pub by : entry.route ≡ route

-- Packets with the key that come in by the port go out by the route: the first entry that matches the key has the route; or none
-- matches it, and they come by a link, and the route is the one by which they then go straight on (default routing, SpiNNaker datasheet).
pub data GoOut (entries : List Entry) (k : ℕ) (port : Port) (route : Route) : Type 0 where
  by_entry : IsSentBy entries k route → GoOut entries k port route
  straight : (arrival : Dir) → port ≡ Link arrival → route ≡ straight_on arrival → find (λ (e : Entry). matches e k) entries ≡ None → GoOut entries k port route

-- The table is of the same chip, and no longer. For each key that some of the given rows has, where the first that has it decides, its
-- packets go out by that row's route; an entry matches them, unless the row tells by which link they come in. Where no key may be new,
-- one that no given row has is matched by no entry.
pub record KeepsTable (exact : Bool) (given : GivenTable) (short : ShortTable) : Type 0 where
  pub chip : short.table.chip ≡ given.chip
  pub no_longer : length short.table.entries ≤ length given.rows
  pub routes : (k : ℕ) (row : RoutedBlock) → k < 2 ^ 32 → first_with given.rows k ≡ Some row → GoOut short.table.entries k row.port row.route
  pub keys : exact ≡ true → (k : ℕ) → k < 2 ^ 32 → first_with given.rows k ≡ None → find (λ (e : Entry). matches e k) short.table.entries ≡ None

-- the second list has one item for each of the first, in order, and this is so of the two
pub data AreBeside {A B : Type 0} (R : A → B → Type 0) : List A → List B → Type 0 where
  none : AreBeside R [] []
  more : (x : A) (y : B) (xs : List A) (ys : List B) → R x y → AreBeside R xs ys → AreBeside R (x ∷ xs) (y ∷ ys)

-- a shorter table, and what it keeps
pub record IsShorterTable (target : ℕ) (exact : Bool) (given : GivenTable) (short : ShortTable) : Type 0 where
  pub shorter : IsShorter target exact given short
  pub keeps : KeepsTable exact given short

abbrev pub AreShorter : ℕ → Bool → List GivenTable → List ShortTable → Type 0
AreShorter target exact given short = AreBeside (IsShorterTable target exact) given short

-- a table has more entries than a router
abbrev pub is_long_table : ShortTable → Bool
is_long_table t = nat_lt 1024 (length t.table.entries)

abbrev pub has_long_table : List ShortTable → Bool
has_long_table tables = list_any is_long_table tables
