-- Whether the tables of an image route each net by its tree, judged chip by chip by the first row that meets the net's keys
-- (this project's own; entries and default routes are the SpiNNaker datasheet's).
use Rattle.std.specs.Prelude.{◌≡◌, ◌⊎◌, ℕ, ◌<◌, List, All, IsTrue, Some, slice_get}
use Rattle.spin_base.specs.declared.blocks.Block.{Block}
use Rattle.spin_base.specs.declared.blocks.Entry.{Entry}
use Rattle.spin_base.specs.declared.chips.Chip.{Chip}
use Rattle.spin_base.specs.declared.chips.Port.{Port}
use Rattle.spin_base.specs.declared.routes.Out.{Out}
use Rattle.spin_base.specs.declared.routes.Route.{Route}
use Rattle.spin_base.specs.Lookup.{matches, default_route, lookup}
use Rattle.spin_base.specs.Outputs.{has, IsOutput}
use Rattle.machine_desc.specs.Description.{Description}
use Rattle.machine_desc.specs.Live.{index_of}
use Rattle.machine_desc.specs.declared.nets.NetPlan.{NetPlan}
use Rattle.machine_desc.specs.Outputs.{is_wanted, ComesIn}
use Rattle.machine_desc.specs.RightTables.{IsKeyOf, table_at}
use Rattle.table_load.specs.declared.tables.Image.{Image}
use Rattle.table_load.specs.Memories.{rows_of_index}
use Rattle.net_tables.specs.PlainTable.{HasChip}
use Rattle.plan_check.specs.declared.verdicts.Verdict.{Verdict}
use Rattle.plan_check.specs.declared.verdicts.Verdict.TheVariants.{Right, Wrong, Split}

-- ---- a block of keys and the rows of one chip

-- An entry meets a block where it matches some key of the block.
pub record Meets (b : Block) (e : Entry) : Type 0 where
  pub key : ℕ
  pub of_block : IsKeyOf b key
  pub matched : IsTrue (matches e key)

-- A block lies inside an entry where the entry matches every key of the block.
abbrev pub LiesInside : Block → Entry → Type 0
LiesInside b e = (key : ℕ) → IsKeyOf b key → IsTrue (matches e key)

-- no row meets the block
abbrev pub NoneMeets : Block → List Entry → Type 0
NoneMeets b rows = All (λ e. Meets b e → ⊥) rows

-- the first row that meets the block is this one, at this place
pub record IsFirstToMeet (b : Block) (rows : List Entry) (place : ℕ) (e : Entry) : Type 0 where
  pub there : slice_get rows place ≡ Some e
  pub meets : Meets b e
  pub first : (k : ℕ) (x : Entry) → k < place → slice_get rows k ≡ Some x → Meets b x → ⊥

-- All keys of a block get one route: that of the first row that meets the block, where the block lies inside it, or the
-- default route of the port where no row meets it.
abbrev pub GetsRoute : Block → List Entry → Port → Route → Type 0
GetsRoute b rows port r =
    ((place : ℕ) × (e : Entry) × IsFirstToMeet b rows place e × LiesInside b e × (r ≡ e.route))
    ⊎ (NoneMeets b rows × (r ≡ default_route port))

-- The block is split at a place where the first row that meets it stands there and does not match all its keys.
abbrev pub IsSplitAt : Block → List Entry → ℕ → Type 0
IsSplitAt b rows place = (e : Entry) × IsFirstToMeet b rows place e × (LiesInside b e → ⊥)

-- ---- a net at a chip of its tree

-- the rows of the image for a chip of the machine
abbrev pub rows_for : Description → Image → Chip → List Entry
rows_for m v c = rows_of_index v.height v.chips (index_of m c)

-- the route has exactly the outputs that the net's tree wants at the chip
abbrev pub IsTreeRoute : NetPlan → Chip → Route → Type 0
IsTreeRoute net c r = (o : Out) → IsOutput o → has r o ≡ is_wanted net.tree.edges net.targets c o

-- at the port at which the net's packets come in at the chip, all its keys get one route, of which this holds
pub record GetsRouteThat (m : Description) (v : Image) (net : NetPlan) (c : Chip) (Is : Route → Type 0) : Type 0 where
  pub port : Port
  pub comes_in : ComesIn m net.tree.root net.tree.edges c port
  pub route : Route
  pub gets : GetsRoute net.block (rows_for m v c) port route
  pub is : Is route

-- A net is fine at a chip where its keys get the tree's route there.
abbrev pub IsFine : Description → Image → NetPlan → Chip → Type 0
IsFine m v net c = GetsRouteThat m v net c (IsTreeRoute net c)

-- It is wrong there where its keys get one route that is not the tree's.
abbrev pub IsWrong : Description → Image → NetPlan → Chip → Type 0
IsWrong m v net c = GetsRouteThat m v net c (λ r. IsTreeRoute net c r → ⊥)

-- the net is fine at each chip of its tree
abbrev pub IsFineAll : Description → Image → NetPlan → Type 0
IsFineAll m v net = (c : Chip) → HasChip m net c → IsFine m v net c

-- ---- the verdict

-- Net and chip before which all are fine, by net and then by the chip's index: the earlier nets at all chips of their trees,
-- and this net at each chip of its tree of a lesser index.
pub record AreFineBefore (m : Description) (v : Image) (nets : List NetPlan) (i : ℕ) (net : NetPlan) (c : Chip) : Type 0 where
  pub there : slice_get nets i ≡ Some net
  pub on_tree : HasChip m net c
  pub nets_before : (j : ℕ) (other : NetPlan) → j < i → slice_get nets j ≡ Some other → IsFineAll m v other
  pub chips_before : (d : Chip) → HasChip m net d → index_of m d < index_of m c → IsFine m v net d

-- The verdict tells of the first net and chip that are not fine: wrong at the first key of the net's block, or split at a
-- row's place. It is right where all are fine.
abbrev pub IsVerdict : Description → List NetPlan → Image → Verdict → Type 0
IsVerdict m nets v Right = All (IsFineAll m v) nets
IsVerdict m nets v (Wrong i c key) = (net : NetPlan) × AreFineBefore m v nets i net c × IsWrong m v net c × (key ≡ net.block.key)
IsVerdict m nets v (Split i c row) = (net : NetPlan) × AreFineBefore m v nets i net c × IsSplitAt net.block (rows_for m v c) row

-- ---- what a verdict means for the tables that are loaded

-- The key is one of the net's, and at the chip, where the net's packets come in, lookup gives it another route than the
-- net's tree wants.
pub record IsMisrouted (m : Description) (tables : List (List Entry)) (net : NetPlan) (c : Chip) (key : ℕ) : Type 0 where
  pub is_key : IsKeyOf net.block key
  pub port : Port
  pub comes_in : ComesIn m net.tree.root net.tree.edges c port
  pub other : IsTreeRoute net c (lookup (table_at m tables c) key port) → ⊥
