-- What actors stand on, for a mesh's setup (this project's own).
use Rattle.std.specs.Prelude.{◌≡◌, ℕ, ◌+◌, ◌*◌, ◌<◌, Bool, true, false, List, [], ◌++◌, length, Option, Some, None, Contains, slice_get, slice_index_or}
use Rattle.std.specs.List.{filter_map, range_with_len}
use Rattle.spin_base.specs.declared.chips.Chip.{Chip}
use Rattle.spin_base.specs.declared.chips.Spot.{Spot}
use Rattle.spin_base.specs.declared.routes.Out.{Out}
use Rattle.spin_base.specs.Outputs.{out_number, IsOutput}
use Rattle.machine_desc.specs.Live.{chip_of, is_live_chip}
use Rattle.machine_desc.specs.NetsOn.{vertex_at}
use Rattle.mesh_core.specs.State.{Setup}
use Rattle.chip_node.specs.declared.nodes.Behind.{Behind}
use Rattle.chip_node.specs.declared.nodes.{CoreBank.CoreBank, RouterNode.RouterNode}
use Rattle.chip_node.specs.Acting.{place_at_router, place_in}
use Rattle.mesh_run.specs.declared.floors.Floor.{Floor}
use Rattle.mesh_run.specs.Played.{port_count, place_behind, IsLiveIndex, IsVertexOn}

-- how many chips the grid has
abbrev pub grid_size : Setup → ℕ
grid_size u = u.machine.width * u.machine.height

abbrev pub live_if : Bool → Chip → Option Chip
live_if true c = Some c
live_if false c = None

-- the chip of an index, where it is live
abbrev pub live_one : Setup → ℕ → Option Chip
live_one u i = live_if (is_live_chip u.machine (chip_of u.machine i)) (chip_of u.machine i)

-- The bank of the chip of an index: its vertices are those on the chip where it is live, and none else.
pub record IsBankOf (u : Setup) (i : ℕ) (b : CoreBank) : Type 0 where
  pub index : b.index ≡ i
  pub cores : b.cores ≡ port_count u
  pub vertices : (v : ℕ) → Contains b.vertices.items v → IsVertexOn u i v
  pub all : is_live_chip u.machine (chip_of u.machine i) ≡ true → (v : ℕ) → IsVertexOn u i v → ∥ Contains b.vertices.items v ∥₁

-- A router with the chip, the table and the outputs of a live chip.
pub record IsRouterOf (u : Setup) (i : ℕ) (r : RouterNode) : Type 0 where
  pub live : IsLiveIndex u i
  pub index : r.index ≡ i
  pub chip : r.chip ≡ chip_of u.machine i
  pub table : r.table.now ≡ slice_index_or u.tables i []
  pub behind : (o : Out) → IsOutput o → place_at_router r.behind.now o ≡ place_behind u (chip_of u.machine i) o

-- For each chip index the chip where it is live, the place of the queue behind each output of a live chip, and the bank. The setup has a
-- table for each.
pub record IsFloorOf (u : Setup) (f : Floor) : Type 0 where
  pub tables_long : length u.tables ≡ grid_size u
  pub chips_long : length f.chips.items ≡ grid_size u
  pub behind_long : length f.behind.items ≡ 24 * grid_size u
  pub banks_long : length f.banks.items ≡ grid_size u
  pub chips : (i : ℕ) → i < grid_size u → slice_get f.chips.items i ≡ Some (live_one u i)
  pub behind : (i : ℕ) (o : Out) → i < grid_size u → is_live_chip u.machine (chip_of u.machine i) ≡ true → IsOutput o
      → place_in (slice_get f.behind.items (24 * i + out_number o)) ≡ place_behind u (chip_of u.machine i) o
  pub banks : (i : ℕ) (b : CoreBank) → slice_get f.banks.items i ≡ Some b → IsBankOf u i b

-- the same of the first chips alone
pub record IsFloorSoFar (u : Setup) (n : ℕ) (f : Floor) : Type 0 where
  pub chips_long : length f.chips.items ≡ n
  pub behind_long : length f.behind.items ≡ 24 * n
  pub banks_long : length f.banks.items ≡ n
  pub chips : (i : ℕ) → i < n → slice_get f.chips.items i ≡ Some (live_one u i)
  pub behind : (i : ℕ) (o : Out) → i < n → is_live_chip u.machine (chip_of u.machine i) ≡ true → IsOutput o
      → place_in (slice_get f.behind.items (24 * i + out_number o)) ≡ place_behind u (chip_of u.machine i) o
  pub banks : (i : ℕ) (b : CoreBank) → slice_get f.banks.items i ≡ Some b → IsBankOf u i b

-- the vertex on a core of a chip, or on the link of a device that is numbered so
abbrev pub vertex_on : List Spot → Chip → ℕ → Option ℕ
vertex_on spots chip core = vertex_at spots (record { chip = chip; core = core })

-- the vertices on a chip, core by core
abbrev pub vertices_by : List Spot → Chip → List ℕ
vertices_by spots chip = filter_map (vertex_on spots chip) (range_with_len 0 24)

-- all vertices on the chip of an index, and none else
pub record AreVerticesOf (u : Setup) (i : ℕ) (vertices : List ℕ) : Type 0 where
  pub each : (v : ℕ) → Contains vertices v → IsVertexOn u i v
  pub all : (v : ℕ) → IsVertexOn u i v → Contains vertices v

-- the places of the queues behind the outputs of the numbers below n, put at the end of a list
pub record AddsBehind (u : Setup) (c : Chip) (n : ℕ) (before after : List (Option Behind)) : Type 0 where
  pub more : List (Option Behind)
  pub are : after ≡ before ++ more
  pub long : length more ≡ n
  pub places : (o : Out) → IsOutput o → out_number o < n → place_in (slice_get more (out_number o)) ≡ place_behind u c o

-- the place of a queue that is there
abbrev pub place_of_slot : Option Behind → Option ℕ
place_of_slot None = None
place_of_slot (Some b) = Some b.place
