-- The lookup memories that an image loads.
use Rattle.std.specs.Prelude.{◌≡◌, ℕ, ◌+◌, ◌-◌, ◌*◌, ◌<◌, List, [], ◌∷◌, ◌++◌, length, replicate, Some, slice_get, ◌==◌, if◌then◌else◌}
use Rattle.spin_base.specs.declared.blocks.Entry.{Entry}
use Rattle.tcam_find.specs.Memory.{unused}
use Rattle.spin_base.specs.declared.blocks.ChipTable.{ChipTable}
use Rattle.spin_base.specs.declared.sizes.TheConstants.{ROUTER_ENTRIES}
use Rattle.table_load.specs.declared.tables.Image.{Image}

-- the index of a table's chip in a grid of that height: x * height + y (this project's own)
abbrev pub table_index : ℕ → ChipTable → ℕ
table_index height t = t.chip.x * height + t.chip.y

-- the rows of the chip of an index, and none where no table is that chip's
abbrev pub rows_of_index : ℕ → List ChipTable → ℕ → List Entry
rows_of_index height [] i = []
rows_of_index height (t ∷ ts) i = if table_index height t == i then t.entries else rows_of_index height ts i

-- A memory of 1,024 entries has the rows from place 0 on, and unused entries after them.
abbrev pub loaded : List Entry → List Entry
loaded rows = rows ++ replicate (ROUTER_ENTRIES - length rows) unused

-- one memory for each chip, in the order of the chips' indices, loaded with the chip's rows
pub record IsLoaded (v : Image) (memories : List (List Entry)) : Type 0 where
  pub count : length memories ≡ v.width * v.height
  pub each : (i : ℕ) → i < v.width * v.height → slice_get memories i ≡ Some (loaded (rows_of_index v.height v.chips i))
