-- Plain tables: one row for each net whose tree has the chip.
use Rattle.std.specs.Prelude.{◌≡◌, ◌*◌, ◌<◌, ◌≤◌, ◌⊎◌, List, [], ◌∷◌, ◌++◌, Some, All, AllPairs, length, map, slice_get}
use Rattle.std.specs.List.Sorted.{IsPermutation}
use Rattle.spin_base.specs.declared.chips.Chip.{Chip}
use Rattle.spin_base.specs.declared.chips.Spot.{Spot}
use Rattle.spin_base.specs.declared.blocks.Entry.{Entry}
use Rattle.spin_base.specs.declared.routes.Out.{Out}
use Rattle.spin_base.specs.Outputs.{has, IsOutput}
use Rattle.machine_desc.specs.Description.{Description}
use Rattle.machine_desc.specs.Live.{IsInside, index_of}
use Rattle.machine_desc.specs.RoutingTree.{IsTreeChip, IsRoutingTree}
use Rattle.machine_desc.specs.declared.nets.NetPlan.{NetPlan}
use Rattle.machine_desc.specs.Outputs.{is_wanted, ComesIn}
use Rattle.machine_desc.specs.RightTables.{AreRight}
use Rattle.tern_word.specs.declared.tables.Row.{Row}
use Rattle.tern_word.specs.declared.tables.Table.{Table}
use Rattle.tern_word.specs.Ternary.{Intersects, generality}
pub use Rattle.tern_word.specs.Entries.{entry_of}
use Rattle.tern_word.specs.SoundTable.{IsSound, Original, Serves}

-- the chip is one of the net's tree
abbrev pub HasChip : Description → NetPlan → Chip → Type 0
HasChip m net c = IsTreeChip m net.tree.root net.tree.edges c

-- The original block of a net at a chip of its tree: the net's keys, the port at which its packets come in there, and as
-- a route exactly the outputs that its tree wants there.
pub record IsOriginalOf (m : Description) (net : NetPlan) (c : Chip) (o : Original) : Type 0 where
  pub keys : o.block ≡ net.block
  pub port : ComesIn m net.tree.root net.tree.edges c o.port
  pub outputs : (out : Out) → IsOutput out → has o.route out ≡ is_wanted net.tree.edges net.targets c out

-- The original blocks of a chip: one for each net whose tree has the chip, in the order of the nets.
abbrev pub AreOriginals : Description → Chip → List NetPlan → List Original → Type 0
AreOriginals m c [] originals = originals ≡ []
AreOriginals m c (net ∷ nets) originals =
    (HasChip m net c × (o : Original) × IsOriginalOf m net c o × (rest : List Original) × (originals ≡ o ∷ rest) × AreOriginals m c nets rest)
    ⊎ ((HasChip m net c → ⊥) × AreOriginals m c nets originals)

-- the row of an original block, which it alone stands for
abbrev pub row_of : Original → Row
row_of o = record { block = o.block; route = o.route; aliases = record { block = o.block; port = o.port } ∷ [] }

-- rows are ordered by their block's generality, then by its key (this project's own)
abbrev pub IsRowNotAfter : Row → Row → Type 0
IsRowNotAfter r s = (generality r.block < generality s.block) ⊎ ((generality r.block ≡ generality s.block) × (r.block.key ≤ s.block.key))

-- The plain table of a chip has one row for each original block, in that order.
pub record IsPlainTable (m : Description) (nets : List NetPlan) (c : Chip) (rows : List Row) : Type 0 where
  pub originals : List Original
  pub originals_are : AreOriginals m c nets originals
  pub one_row_each : IsPermutation (map row_of originals) rows
  pub in_order : AllPairs IsRowNotAfter rows

-- The rows serve the original blocks of the chip.
pub record ServesOriginals (m : Description) (nets : List NetPlan) (c : Chip) (rows : List Row) : Type 0 where
  pub originals : List Original
  pub originals_are : AreOriginals m c nets originals
  pub served : Serves rows originals

-- each chip's table is such a one
abbrev pub AtEach : Description → List Table → (Chip → List Row → Type 0) → Type 0
AtEach m tables Is = (c : Chip) (t : Table) → IsInside m c → slice_get tables (index_of m c) ≡ Some t → Is c t.rows

-- What a list of nets must meet for plain tables to be right: trees that are routing trees for the nets' targets, with roots
-- in the grid; targets that are cores or devices of a chip; and no key that two nets have.
pub record AreRoutedApart (m : Description) (nets : List NetPlan) : Type 0 where
  pub trees : All (λ (net : NetPlan). IsRoutingTree m net.tree.root net.tree.edges net.targets) nets
  pub roots : All (λ (net : NetPlan). IsInside m net.tree.root) nets
  pub cores : All (λ (net : NetPlan). All (λ (s : Spot). s.core < 24) net.targets) nets
  pub apart : AllPairs (λ (a b : NetPlan). ¬ (Intersects a.block b.block)) nets

-- the entries of a table's rows, in order
abbrev pub entries : Table → List Entry
entries t = map entry_of t.rows

-- What the plain tables of all chips are, by the chip's index: plain, and so no longer than there are nets, sound, and right
-- for the nets, alone and with any entries after theirs.
pub record ArePlainTables (m : Description) (nets : List NetPlan) (tables : List Table) : Type 0 where
  pub long : length tables ≡ m.width * m.height
  pub plain : AtEach m tables (IsPlainTable m nets)
  pub few : AtEach m tables (λ c rows. length rows ≤ length nets)
  pub sound : AtEach m tables (λ c rows. IsSound rows)
  pub serves : AtEach m tables (ServesOriginals m nets)
  pub right : AreRight m (map entries tables) nets
  pub followed : (rest : Table → List Entry) → AreRight m (map (λ (t : Table). entries t ++ rest t) tables) nets
