-- Images of final tables: those that a compiler makes (this project's own).
use Rattle.std.specs.Prelude.{◌≡◌, ℕ, ◌*◌, List, Some, length, slice_get}
use Rattle.spin_base.specs.declared.chips.Chip.{Chip}
use Rattle.machine_desc.specs.Description.{Description}
use Rattle.machine_desc.specs.Live.{IsInside, index_of}
use Rattle.machine_desc.specs.declared.nets.NetPlan.{NetPlan}
use Rattle.tern_word.specs.declared.tables.Row.{Row}
use Rattle.net_tables.specs.PlainTable.{IsPlainTable}
use Rattle.default_routes.specs.declared.stripping.Final.{Final}
use Rattle.default_routes.specs.FinalTable.{IsFinalOf}
use Rattle.table_load.specs.declared.tables.Image.{Image}
use Rattle.table_load.specs.Memories.{rows_of_index}

-- the final table is that of the nets' plain table at the chip
pub record IsFinalAt (m : Description) (nets : List NetPlan) (target : ℕ) (c : Chip) (f : Final) : Type 0 where
  pub rows : List Row
  pub plain : IsPlainTable m nets c rows
  pub final : IsFinalOf target rows f

-- The image has for each chip the entries of a final table, which is that of the nets' plain table there.
pub record IsImageOf (m : Description) (nets : List NetPlan) (target : ℕ) (finals : List Final) (v : Image) : Type 0 where
  pub one_each : length finals ≡ m.width * m.height
  pub finals_are : (c : Chip) (f : Final) → IsInside m c → slice_get finals (index_of m c) ≡ Some f → IsFinalAt m nets target c f
  pub rows_are : (i : ℕ) (f : Final) → slice_get finals i ≡ Some f → rows_of_index v.height v.chips i ≡ f.entries
