-- The final tables of chips: the entries that are loaded of each chip's plain table (this project's own).
use Rattle.std.specs.Prelude.{◌≡◌, ℕ, ◌*◌, ◌<◌, ◌^◌, Bool, List, [], All, None, Some, length, map, nat_lt, position, slice_get, slice_index_or, true}
use Rattle.spin_base.specs.declared.blocks.Entry.{Entry}
use Rattle.spin_base.specs.declared.chips.Chip.{Chip}
use Rattle.spin_base.specs.declared.sizes.TheConstants.{ROUTER_ENTRIES}
use Rattle.machine_desc.specs.Description.{Description}
use Rattle.machine_desc.specs.Live.{IsInside, index_of}
use Rattle.machine_desc.specs.declared.nets.NetPlan.{NetPlan}
use Rattle.tern_word.specs.declared.tables.Row.{Row}
use Rattle.tern_word.specs.declared.tables.Table.{Table}
use Rattle.tern_word.specs.SoundTable.{served}
use Rattle.default_routes.specs.declared.stripping.Final.{Final}
use Rattle.default_routes.specs.FinalTable.{HaveRoutesOf, IsFinalOf, IsShortened, RoutesAlone}
use Rattle.net_tables.specs.declared.marks.Mark.{Mark}
use Rattle.net_tables.specs.Marks.{AreApart, IsTableOf, original_of}
use Rattle.net_tables.specs.PlainTable.{AreOriginals, AreRoutedApart, IsPlainTable}
use Rattle.table_load.specs.Images.{IsRow}
use Rattle.table_load.specs.Memories.{loaded}
use Rattle.par_compile.specs.declared.workers.Work.{Work}
use Rattle.par_compile.specs.declared.workers.Work.TheVariants.{Plain, Done, Refused}

-- a lookup memory that has the entries of a final table from place 0 on, and unused entries after them
abbrev pub loaded_of : Final → List Entry
loaded_of f = loaded f.entries

-- What holds of the final table of a sound table. It is the table, covered, without the rows that default routing replaces; the
-- routes are the table's; and the entries give each key of each original block its route, also before entries that match no key.
pub record StandsFor (target : ℕ) (rows : List Row) (f : Final) : Type 0 where
  pub shortened : IsShortened target rows f
  pub routes : HaveRoutesOf rows f.entries
  pub serves : All (RoutesAlone f.entries) (served rows)

-- original blocks whose table can be covered: no key is in two of them
pub record AreCoverable (marks : List Mark) : Type 0 where
  pub few : length marks < 2 ^ 32
  pub apart : AreApart marks

-- the original blocks of chips, of which each has a number of 32 bits
pub record CanBeCovered (blocks : List (List Mark)) : Type 0 where
  pub few : length blocks < 2 ^ 32
  pub coverable : All AreCoverable blocks

-- the nets are routed, no two of their blocks share a key, and each has a number of 32 bits
pub record AreFewRouted (m : Description) (nets : List NetPlan) : Type 0 where
  pub few : length nets < 2 ^ 32
  pub routed : AreRoutedApart m nets

-- the final table at a chip is that of the nets' plain table there
pub record HasFinal (m : Description) (nets : List NetPlan) (target : ℕ) (c : Chip) (f : Final) : Type 0 where
  pub rows : List Row
  pub plain : IsPlainTable m nets c rows
  pub is_final : IsFinalOf target rows f

-- each chip has its final table, by the chip's index
abbrev pub AreFinals : Description → List NetPlan → ℕ → List Final → Type 0
AreFinals m nets target finals = (c : Chip) (f : Final) → IsInside m c → slice_get finals (index_of m c) ≡ Some f → HasFinal m nets target c f

-- the entries are such as an image may have, each with an output
pub record KeepsRows (f : Final) : Type 0 where
  pub rows : All IsRow f.entries

-- A router's lookup memory has 1,024 entries (SpiNNaker datasheet). A final table is long where it has more.
abbrev pub is_long : Final → Bool
is_long f = nat_lt ROUTER_ENTRIES (length f.entries)

-- Final tables from the first chip on, by the chips' indices, end where all have one, or behind one that is long: where none is
-- long, these are all.
abbrev pub AreAllUnlessLong : ℕ → List Final → Type 0
AreAllUnlessLong count finals = position is_long finals ≡ None → length finals ≡ count

-- ---- what workers find and leave

-- a chip's original blocks, which wait for its table to be made and covered
abbrev pub IsStillPlain : List Mark → Work → Type 0
IsStillPlain marks (Plain blocks) = blocks.marks ≡ marks
IsStillPlain marks (Done f) = ⊥
IsStillPlain marks Refused = ⊥

-- the final table of the plain table of original blocks
pub record IsFinalFor (target : ℕ) (marks : List Mark) (f : Final) : Type 0 where
  pub table : Table
  pub plain : IsTableOf marks table
  pub stands : StandsFor target table.rows f

-- Lists of original blocks, by the chips' indices, from which final tables are made: what is final for the list of a chip is final
-- for all original blocks of the chip.
pub record AreBlocksFor (m : Description) (nets : List NetPlan) (target : ℕ) (lists : List (List Mark)) : Type 0 where
  pub long : length lists ≡ m.width * m.height
  pub blocks : (c : Chip) → IsInside m c → (marks : List Mark) × AreOriginals m c nets (map original_of marks)
      × ((f : Final) → IsFinalFor target (slice_index_or lists (index_of m c) []) f → IsFinalFor target marks f)

-- In the place of original blocks stands their final table, or a refusal where there was not enough memory, or they themselves,
-- where their table is not yet covered.
abbrev pub IsWorked : ℕ → Work → Work → Type 0
IsWorked target (Plain blocks) (Done f) = IsFinalFor target blocks.marks f
IsWorked target (Plain blocks) (Plain others) = others.marks ≡ blocks.marks
IsWorked target (Plain blocks) Refused = Unit {0}
IsWorked target (Done f) w = Unit {0}
IsWorked target Refused w = Unit {0}

-- the final table that work gives: that of the original blocks that are left, or the one that stands there
abbrev pub GivesFinal : ℕ → Work → Final → Type 0
GivesFinal target (Plain blocks) f = IsFinalFor target blocks.marks f
GivesFinal target (Done g) f = g ≡ f
GivesFinal target Refused f = ⊥

-- a long final table stands there
abbrev pub HasLong : Work → Type 0
HasLong (Plain blocks) = ⊥
HasLong (Done f) = is_long f ≡ true
HasLong Refused = ⊥
