-- The regions of a machine, and which of their places are taken.
use Rattle.std.specs.Prelude.{◌≡◌, ℕ, ◌+◌, ◌*◌, ◌<◌, ◌≤◌, ◌==◌, Bool, true, not, ◌&&◌, nat_lt, nat_le, List, ◌∷◌, ◌++◌, length, replicate, Some, slice_get, if◌then◌else◌}
use Rattle.std.specs.List.{list_any}
use Rattle.spin_base.specs.declared.sizes.TheConstants.{ROUTER_ENTRIES}
use Rattle.machine_desc.specs.Description.{Description}
use Rattle.machine_desc.specs.Live.{index_of, IsInside}
use Rattle.range_store.specs.Regions.{hole_of, is_free, in_range, AreRuns}
use Rattle.app_loads.specs.declared.loaded.Range.{Range}
use Rattle.app_loads.specs.declared.places.Region.{Region}
use Rattle.app_loads.specs.declared.places.Region.TheVariants.{Keys, Memory, Rows}
use Rattle.app_loads.specs.Host.{Free}

-- The regions stand in a list: first the keys of the machine, then, by the chips' indices, the shared memory of each chip, and the
-- entries of each chip's table (this project's own).
abbrev pub chip_count : Description → ℕ
chip_count m = m.width * m.height

abbrev pub keys_place : ℕ
keys_place = 0

abbrev pub place_of : Description → Region → ℕ
place_of m Keys = keys_place
place_of m (Memory c) = 1 + index_of m c
place_of m (Rows c) = 1 + (chip_count m + index_of m c)

-- a region of the machine: its chip, if it is one of a chip, is inside the grid
abbrev pub IsRegion : Description → Region → Type 0
IsRegion m Keys = Unit {0}
IsRegion m (Memory c) = IsInside m c
IsRegion m (Rows c) = IsInside m c

-- There are 2^32 keys, each chip has the machine's bytes of memory, and each table has 1,024 entries (SpiNNaker datasheet).
abbrev pub region_size : Description → ℕ → ℕ
region_size m region = if region == keys_place then 4294967296 else (if nat_le region (chip_count m) then m.sdram else ROUTER_ENTRIES)

-- a region without a place that is taken
abbrev pub all_free : ℕ → Free
all_free size = record { size = size; holes = hole_of 0 size }

-- the regions where nothing is taken
abbrev pub open_regions : Description → List Free
open_regions m = all_free 4294967296 ∷ (replicate (chip_count m) (all_free m.sdram) ++ replicate (chip_count m) (all_free ROUTER_ENTRIES))

-- whether a range is one of this region and has this place
abbrev pub range_has : ℕ → ℕ → Range → Bool
range_has region k range = (range.region == region) && in_range range.place range.size k

-- whether one of the ranges has the place of the region
abbrev pub is_taken : List Range → ℕ → ℕ → Bool
is_taken ranges region k = list_any (range_has region k) ranges

-- a range has at least one place, of a region that is there, and lies within it
pub record IsRangeWithin (m : Description) (regions : ℕ) (range : Range) : Type 0 where
  pub there : range.region < regions
  pub some : 0 < range.size
  pub within : range.place + range.size ≤ region_size m range.region

-- two ranges share no place
abbrev pub ShareNoPlace : Range → Range → Type 0
ShareNoPlace a b = (region k : ℕ) → range_has region k a ≡ true → range_has region k b ≡ true → ⊥

-- The free places of a region are those below its size that none of the ranges has. Its holes are their longest runs.
pub record IsFreeBeside (m : Description) (ranges : List Range) (region : ℕ) (f : Free) : Type 0 where
  pub size : f.size ≡ region_size m region
  pub runs : AreRuns 0 f.size f.holes
  pub free : (k : ℕ) → is_free f.holes k ≡ (nat_lt k f.size && not (is_taken ranges region k))

-- the free places of all regions are those that none of the ranges has
pub record AreFreeBeside (m : Description) (ranges : List Range) (regions : List Free) : Type 0 where
  pub all : length regions ≡ 1 + (chip_count m + chip_count m)
  pub each : (region : ℕ) (f : Free) → slice_get regions region ≡ Some f → IsFreeBeside m ranges region f
