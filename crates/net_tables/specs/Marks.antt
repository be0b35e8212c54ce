-- What one net wants of each chip, by the chip's index, and the rows that follow.
use Rattle.std.specs.Prelude.{◌≡◌, ℕ, ◌*◌, ◌<◌, ◌⊎◌, List, [], ◌∷◌, ◌++◌, ◌==◌, Bool, false, not, Option, Some, None, All, AllPairs, filter, length, map, slice_index_or}
use Rattle.std.specs.List.Sorted.{IsPermutation}
use Rattle.spin_base.specs.declared.chips.Chip.{Chip}
use Rattle.spin_base.specs.declared.chips.Port.{Port}
use Rattle.spin_base.specs.declared.chips.Port.TheVariants.{Link, Local}
use Rattle.spin_base.specs.declared.chips.Spot.{Spot}
use Rattle.spin_base.specs.declared.blocks.Block.{Block}
use Rattle.spin_base.specs.declared.routes.Out.{Out}
use Rattle.spin_base.specs.declared.routes.Route.{Route}
use Rattle.spin_base.specs.Lookup.{straight_on}
use Rattle.spin_base.specs.Outputs.{has, IsOutput, nothing}
use Rattle.machine_desc.specs.declared.trees.Edge.{Edge}
use Rattle.machine_desc.specs.Description.{Description}
use Rattle.machine_desc.specs.Live.{IsInside, index_of}
use Rattle.machine_desc.specs.RoutingTree.{IsTreeChip, IsRoutingTree}
use Rattle.machine_desc.specs.declared.nets.NetPlan.{NetPlan}
use Rattle.machine_desc.specs.Outputs.{is_wanted, ComesIn}
use Rattle.tern_word.specs.declared.tables.Row.{Row}
use Rattle.tern_word.specs.declared.tables.Table.{Table}
use Rattle.tern_word.specs.Ternary.{Intersects, generality}
use Rattle.tern_word.specs.SoundTable.{Original}
use Rattle.net_tables.specs.declared.marks.Mark.{Mark}
use Rattle.net_tables.specs.PlainTable.{AreOriginals, HasChip, IsOriginalOf, IsRowNotAfter, row_of}

-- the port is one at which packets come in at the chip, and there is none only at a chip off the tree
abbrev pub TellsPort : Description → Chip → List Edge → Chip → Option Port → Type 0
TellsPort m root edges c (Some port) = ComesIn m root edges c port
TellsPort m root edges c None = IsTreeChip m root edges c → ⊥

abbrev pub TellsPorts : Description → Chip → List Edge → List (Option Port) → Type 0
TellsPorts m root edges ports = (c : Chip) → IsInside m c → TellsPort m root edges c (slice_index_or ports (index_of m c) None)

-- each chip's route has exactly the outputs that the tree wants there
abbrev pub TellsRoutes : Description → List Edge → List Spot → List Route → Type 0
TellsRoutes m edges targets routes =
    (c : Chip) (o : Out) → IsInside m c → IsOutput o → has (slice_index_or routes (index_of m c) nothing) o ≡ is_wanted edges targets c o

abbrev pub original_of : Mark → Original
original_of k = record { block = k.block; port = k.port; route = k.route }

-- the list, with one more item where there is a port
abbrev pub with_mark : Block → Option Port → Route → List Mark → List Mark
with_mark block (Some port) route list = list ++ record { block = block; port = port; route = route } ∷ []
with_mark block None route list = list

-- what a net's tree and targets must be
pub record IsRouted (m : Description) (net : NetPlan) : Type 0 where
  pub tree : IsRoutingTree m net.tree.root net.tree.edges net.targets
  pub root : IsInside m net.tree.root
  pub cores : All (λ (s : Spot). s.core < 24) net.targets

-- a board has a place for each chip of the grid, and at each of them this
pub record IsBlank {X : Type 0} (m : Description) (x : X) (board : List X) : Type 0 where
  pub long : length board ≡ m.width * m.height
  pub clear : (c : Chip) → IsInside m c → slice_index_or board (index_of m c) x ≡ x

-- a chip off the net's tree has no route
abbrev pub IsClearOff : Description → NetPlan → List Route → Type 0
IsClearOff m net routes = (c : Chip) → IsInside m c → (HasChip m net c → ⊥) → slice_index_or routes (index_of m c) nothing ≡ nothing

-- both boards are blank
pub record AreBlank (m : Description) (ports : List (Option Port)) (routes : List Route) : Type 0 where
  pub no_port : IsBlank m None ports
  pub no_route : IsBlank m nothing routes

-- the boards tell what the net wants of each chip
pub record TellNet (m : Description) (net : NetPlan) (ports : List (Option Port)) (routes : List Route) : Type 0 where
  pub ports_long : length ports ≡ m.width * m.height
  pub routes_long : length routes ≡ m.width * m.height
  pub ports_told : TellsPorts m net.tree.root net.tree.edges ports
  pub routes_told : TellsRoutes m net.tree.edges net.targets routes
  pub clear_off : IsClearOff m net routes

-- the boards and the lists have the place
pub record HavePlace (place : ℕ) (ports : List (Option Port)) (routes : List Route) (lists : List (List Mark)) : Type 0 where
  pub in_ports : place < length ports
  pub in_routes : place < length routes
  pub in_lists : place < length lists

-- no key is in two of the blocks
abbrev pub AreApart : List Mark → Type 0
AreApart marks = AllPairs (λ (a b : Mark). ¬ (Intersects a.block b.block)) marks

-- each chip's original blocks, by the chip's index
pub record AreBlocksOf (m : Description) (nets : List NetPlan) (lists : List (List Mark)) : Type 0 where
  pub long : length lists ≡ m.width * m.height
  pub blocks : (c : Chip) → IsInside m c → AreOriginals m c nets (map original_of (slice_index_or lists (index_of m c) []))

-- the list of a chip has the net's original block more, exactly where the net's tree has the chip
abbrev pub GainsMark : Description → NetPlan → Chip → List Mark → List Mark → Type 0
GainsMark m net c before after =
    (HasChip m net c × (k : Mark) × IsOriginalOf m net c (original_of k) × (after ≡ before ++ k ∷ []))
    ⊎ ((HasChip m net c → ⊥) × (after ≡ before))

-- the numbers by which rows are ordered: the block's generality, then its key
abbrev pub mark_numbers : Mark → ℕ × ℕ
mark_numbers k = (generality k.block, k.block.key)

-- the row of an original block
abbrev pub row_of_mark : Mark → Row
row_of_mark k = row_of (original_of k)

-- the table with a row for each original block, in the order of the list
abbrev pub table_of_sorted : List Mark → Table
table_of_sorted marks = record { rows = map row_of_mark marks }

-- a table with a row for each original block of the list, in order
pub record IsTableOf (marks : List Mark) (t : Table) : Type 0 where
  pub sorted : List Mark
  pub same : IsPermutation marks sorted
  pub rows_are : t.rows ≡ map row_of_mark sorted
  pub in_order : AllPairs IsRowNotAfter t.rows

-- What comes in at the port leaves by the route also where no entry matches: by the link opposite the one by which it came, and by
-- no other output (default routing, SpiNNaker datasheet).
abbrev pub goes_straight : Port → Route → Bool
goes_straight (Link arrival) route = route.bits == (straight_on arrival).bits
goes_straight Local route = false

abbrev pub turns : Mark → Bool
turns k = not (goes_straight k.port k.route)

-- Of each chip's original blocks, by the chip's index, those that do not go straight on.
pub record AreTurningBlocksOf (m : Description) (nets : List NetPlan) (lists : List (List Mark)) : Type 0 where
  pub long : length lists ≡ m.width * m.height
  pub blocks : (c : Chip) → IsInside m c →
      (marks : List Mark) × AreOriginals m c nets (map original_of marks) × (slice_index_or lists (index_of m c) [] ≡ filter turns marks)
