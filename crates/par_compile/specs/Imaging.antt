-- The image of final tables: the entries of each chip that has any (this project's own).
use Rattle.std.specs.Prelude.{◌≡◌, ℕ, ◌*◌, ◌≤◌, List, [], ◌∷◌, length, map, All}
use Rattle.spin_base.specs.declared.sizes.TheConstants.{ROUTER_ENTRIES}
use Rattle.spin_base.specs.Gathered.{gathered}
use Rattle.spin_base.specs.declared.blocks.ChipTable.{ChipTable}
use Rattle.spin_base.specs.declared.blocks.Entry.{Entry}
use Rattle.spin_base.specs.declared.chips.Chip.{Chip}
use Rattle.machine_desc.specs.Description.{Description}
use Rattle.machine_desc.specs.Live.{chip_of}
use Rattle.default_routes.specs.declared.stripping.Final.{Final}
use Rattle.table_load.specs.declared.tables.Image.{Image}
use Rattle.table_load.specs.Images.{Spells}
use Rattle.table_load.specs.Memories.{IsLoaded}
use Rattle.par_compile.specs.Finals.{KeepsRows, loaded_of}

-- Final tables of which there is an image: one for each chip of the machine, whose entries are such as an image may have, each with
-- an output, at most 1,024 a chip.
pub record CanBeImaged (m : Description) (finals : List Final) : Type 0 where
  pub one_each : length finals ≡ m.width * m.height
  pub kept : All KeepsRows finals
  pub short : All (λ (f : Final). length f.entries ≤ ROUTER_ENTRIES) finals

-- a chip without entries is not listed
abbrev pub listed : Chip → List Entry → List ChipTable
listed c [] = []
listed c (e ∷ es) = record { chip = c; entries = e ∷ es } ∷ []

-- the tables of the chips whose indices begin at a number
abbrev pub tables_from : Description → ℕ → List Final → List ChipTable
tables_from m i finals = gathered (λ j (f : Final). listed (chip_of m j) f.entries) i finals

-- The image of final tables of a machine's chips, one for each chip by the chip's index: the machine's size, whether it wraps, and
-- the entries of each chip that has any, in the order of the chips.
abbrev pub image_in : Description → List Final → Image
image_in m finals = record { width = m.width; height = m.height; wrap = m.wrap; chips = tables_from m 0 finals }

-- Lookup memories, one for each chip by the chip's index, that a loader fills from bytes: the bytes spell an image, and each
-- memory has the rows of its chip there.
pub record AreFilledFrom (bytes : List ℕ) (memories : List (List Entry)) : Type 0 where
  pub image : Image
  pub spelled : Spells image bytes
  pub loaded : IsLoaded image memories

-- From bytes a loader fills the memories of final tables, and no other ones: each has the entries of its chip's final table from
-- place 0 on, and unused entries after them.
pub record FillTables (bytes : List ℕ) (finals : List Final) : Type 0 where
  pub filled : AreFilledFrom bytes (map loaded_of finals)
  pub only : (memories : List (List Entry)) → AreFilledFrom bytes memories → memories ≡ map loaded_of finals
