-- Rows put into ranges of entries, and taken out of them, as the private functions say it.
use Rattle.std.specs.Prelude.{◌≡◌, ℕ, ◌+◌, ◌-◌, ◌<◌, ◌≤◌, true, false, List, [], All, AllPairs, Contains, Option, Some, length, map, slice_get, if◌then◌else◌}
use Rattle.std.specs.Option.{option_map_or}
use Rattle.spin_base.specs.declared.blocks.Entry.{Entry}
use Rattle.spin_base.specs.declared.chips.Chip.{Chip}
use Rattle.spin_base.specs.declared.sizes.TheConstants.{ROUTER_ENTRIES}
use Rattle.machine_desc.specs.Description.{Description}
use Rattle.machine_desc.specs.Live.{index_of, IsInside}
use Rattle.range_store.specs.Regions.{in_range}
use Rattle.machine_desc.specs.RightTables.{table_at}
use Rattle.tcam_find.specs.Memory.{unused}
use Rattle.tern_word.specs.Entries.{entry_of}
use Rattle.tern_word.specs.declared.tables.Row.{Row}
use Rattle.tern_word.specs.declared.tables.Table.{Table}
use Rattle.net_tables.specs.declared.marks.Mark.{Mark}
use Rattle.net_tables.specs.Marks.{table_of_sorted}
use Rattle.app_loads.specs.declared.loaded.Range.{Range}
use Rattle.app_loads.specs.declared.places.Region.TheVariants.{Rows}
use Rattle.app_loads.specs.Regions.{ShareNoPlace, IsRangeWithin, chip_count, is_taken, place_of}

-- the table has all its entries, and so many from a place on are among them
pub record HasEntriesFrom (table : List Entry) (first count : ℕ) : Type 0 where
  pub size : length table ≡ ROUTER_ENTRIES
  pub fits : first + count ≤ ROUTER_ENTRIES

-- the tables with a row for each original block, in the order of each list
abbrev pub tables_in : List (List Mark) → List Table
tables_in lists = map table_of_sorted lists

-- the range lies within its table, and has as many places as there are rows of the table's chip
abbrev pub FitsTable : Description → List Table → Range → Type 0
FitsTable m rows range =
    (j : ℕ) (t : Table) → range.region ≡ 1 + (chip_count m + j) → slice_get rows j ≡ Some t → (range.place + length t.rows ≤ ROUTER_ENTRIES) × (range.size ≡ length t.rows)

-- a range of entries that lies within a table has room for its places
abbrev pub HasRoom : Description → Range → ℕ → Type 0
HasRoom m range room = chip_count m < range.region → range.place + range.size ≤ ROUTER_ENTRIES → range.place + range.size ≤ room

-- there is a room for each range, in their order
pub record HaveRooms (m : Description) (ranges : List Range) (rooms : List ℕ) : Type 0 where
  pub all : length ranges ≤ length rooms
  pub each : (i : ℕ) (range : Range) (room : ℕ) → slice_get ranges i ≡ Some range → slice_get rooms i ≡ Some room → HasRoom m range room

-- there are a table and rows for each chip, and the ranges share no entry, fit, and have room
pub record CanCopy (m : Description) (tables : List (List Entry)) (rows : List Table) (ranges : List Range) (rooms : List ℕ) : Type 0 where
  pub tables_long : length tables ≡ chip_count m
  pub rows_long : length rows ≡ chip_count m
  pub each_long : (c : Chip) → IsInside m c → length (table_at m tables c) ≡ ROUTER_ENTRIES
  pub apart : AllPairs ShareNoPlace ranges
  pub there : (range : Range) → Contains ranges range → range.region < 1 + (chip_count m + chip_count m)
  pub fit : (range : Range) → Contains ranges range → FitsTable m rows range
  pub room : HaveRooms m ranges rooms

-- so many entries from a place on are these, and all others as they were
pub record FillsFrom (first count : ℕ) (fill : ℕ → Option Entry) (old new : List Entry) : Type 0 where
  pub all : length new ≡ length old
  pub each : (k : ℕ) → slice_get new k ≡ (if in_range first count k then fill k else slice_get old k)

-- the entries of each range of a chip's table are these, and all others as they were
pub record AreFilled (m : Description) (fill : Range → Chip → ℕ → Option Entry) (ranges : List Range) (old new : List (List Entry)) : Type 0 where
  pub all : length new ≡ length old
  pub long : (c : Chip) → IsInside m c → length (table_at m new c) ≡ ROUTER_ENTRIES
  pub filled : (range : Range) → Contains ranges range → (c : Chip) (k : ℕ) → IsInside m c → range.region ≡ place_of m (Rows c) → k < ROUTER_ENTRIES → in_range range.place range.size k ≡ true →
      slice_get (table_at m new c) k ≡ fill range c k
  pub others : (c : Chip) (k : ℕ) → IsInside m c → is_taken ranges (place_of m (Rows c)) k ≡ false → slice_get (table_at m new c) k ≡ slice_get (table_at m old c) k

-- the entry at a place, where rows stand from another on
abbrev pub row_entry : List Row → ℕ → ℕ → Option Entry
row_entry rows first k = slice_get (map entry_of rows) (k - first)

-- each range of entries has the rows of its chip
abbrev pub AreCopied : Description → List Table → List Range → List (List Entry) → List (List Entry) → Type 0
AreCopied m rows = AreFilled m (λ range c. row_entry (option_map_or (λ (t : Table). t.rows) (slice_get rows (index_of m c)) []) range.place)

-- there is a table for each chip, and the ranges lie within their regions, apart
pub record CanClear (m : Description) (tables : List (List Entry)) (ranges : List Range) : Type 0 where
  pub tables_long : length tables ≡ chip_count m
  pub each_long : (c : Chip) → IsInside m c → length (table_at m tables c) ≡ ROUTER_ENTRIES
  pub within : All (IsRangeWithin m (1 + (chip_count m + chip_count m))) ranges
  pub apart : AllPairs ShareNoPlace ranges

-- the entries of the ranges are unused
abbrev pub AreUnused : Description → List Range → List (List Entry) → List (List Entry) → Type 0
AreUnused m = AreFilled m (λ range c k. Some unused)
