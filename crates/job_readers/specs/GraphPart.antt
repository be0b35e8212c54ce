-- The graph of a job: its faults in the order of reading, and what it is (this project's own). Where a part has faults,
-- its value is what could be read, and 0 or nothing in place of the rest.
use Rattle.std.specs.Prelude.{ℕ, List, [], ◌∷◌, ◌++◌, Bool, true, false, is_some, if◌then◌else◌, Option, Some, None, map, option_map, option_and_then, unwrap_or, codes, option_to_list, slice_get}
use Rattle.std.specs.List.{list_any, flat_map}
use Rattle.serde_json.specs.Data.{Data}
use Rattle.spin_base.specs.declared.chips.Chip.{Chip}
use Rattle.spin_base.specs.declared.blocks.Block.{Block}
use Rattle.machine_desc.specs.declared.trees.Edge.{Edge}
use Rattle.app_graph.specs.declared.graphs.Vertex.{Vertex}
use Rattle.app_graph.specs.declared.graphs.Net.{Net}
use Rattle.app_graph.specs.declared.graphs.Graph.{Graph}
use Rattle.job_text.specs.declared.faults.JobFault.{JobFault}
use Rattle.job_text.specs.Reading.{◌▹◌}
use Rattle.job_text.specs.Members.{member_of}
use Rattle.job_text.specs.Paths.{member_at}
use Rattle.job_text.specs.Fields.{typed_faults, range_unless, object_faults, object_value, list_faults, list_value, text_faults, text_value}
use Rattle.job_readers.specs.Items.{items_faults, following_faults}
use Rattle.job_readers.specs.Places.{name_place_in, unknown_faults, reference_faults, reference_value, new_name_faults, clash_if}
use Rattle.job_readers.specs.Members.{number_member_faults, number_member, list_member_faults, list_member, member_since}
use Rattle.job_readers.specs.Entries.{pair_of, chip_faults, chip_value, link_faults, link_value}
use Rattle.job_readers.specs.Blocks.{may_be_fixed, block_from, shares_key}
use Rattle.job_readers.specs.Hung.{is_among}

-- the name that an item says
unfoldable pub name_value : Data → List ℕ
name_value d = text_value (member_of (codes "name") d)

-- the name of an item, which no item before it has
unfoldable pub name_faults : List (List ℕ) → List ℕ → Data → List JobFault
name_faults before path d = new_name_faults before (member_at path (codes "name")) (member_of (codes "name") d)

-- ---- vertices

-- The chip on which a vertex must stand is [x,y] with x and y from 0 to 63, where it is said.
abbrev pub place_faults : List ℕ → Option Data → List JobFault
place_faults path None = []
place_faults path (Some d) = chip_faults 64 64 path d

unfoldable pub at_faults : List ℕ → Data → List JobFault
at_faults path d = place_faults (member_at path (codes "at")) (member_of (codes "at") d)

unfoldable pub at_value : Data → Option Chip
at_value d = option_map chip_value (member_of (codes "at") d)

-- The device that a vertex is, from version 3 on: [x,y,d], the link d, 0 to 5, of the chip with x and y from 0 to 63. No
-- vertex before it is that device.
abbrev pub hung_faults : List Edge → List ℕ → Option Data → List JobFault
hung_faults before path None = []
hung_faults before path (Some d) = link_faults 64 64 path d ▹ clash_if (is_among before (link_value d)) path

unfoldable pub device_faults : ℕ → List Edge → List ℕ → Data → List JobFault
device_faults version before path d = hung_faults before (member_at path (codes "device")) (member_since 3 (codes "device") version d)

unfoldable pub device_value : ℕ → Data → Option Edge
device_value version d = option_map link_value (member_since 3 (codes "device") version d)

-- A vertex has a name, and may have memory, a chip and a device.
unfoldable pub vertex_faults : ℕ → List (List ℕ) → List Edge → List ℕ → Data → List JobFault
vertex_faults version names devices path d =
    object_faults path (Some d)
    ▹ (name_faults names path d
    ++ (number_member_faults path (codes "sdram") 0 134217728 (Some 0) d
    ++ (at_faults path d
    ++ device_faults version devices path d)))

unfoldable pub vertex_value : ℕ → Data → Vertex
vertex_value version d = record {
  name = name_value d;
  sdram = number_member (codes "sdram") (Some 0) d;
  at = at_value d;
  device = device_value version d;
}

-- the names and the devices of vertices
unfoldable pub vertex_names_of : List Vertex → List (List ℕ)
vertex_names_of vertices = map (λ (v : Vertex). v.name) vertices

unfoldable pub devices_of : List Vertex → List Edge
devices_of vertices = flat_map (λ (v : Vertex). option_to_list v.device) vertices

-- a vertex after others
abbrev pub next_vertex_faults : ℕ → List Vertex → List ℕ → Data → List JobFault
next_vertex_faults version before = vertex_faults version (vertex_names_of before) (devices_of before)

-- At most 16,384 vertices.
unfoldable pub vertices_faults : ℕ → List ℕ → Data → List JobFault
vertices_faults version path d =
    list_member_faults path (codes "vertices") true 16384 d
    ++ following_faults (next_vertex_faults version) (vertex_value version) [] (member_at path (codes "vertices")) 0 (list_member (codes "vertices") d)

unfoldable pub vertices_value : ℕ → Data → List Vertex
vertices_value version d = map (vertex_value version) (list_member (codes "vertices") d)

-- ---- nets

-- the place, unless a device stands there
unfoldable pub sender_at : List Vertex → ℕ → Option ℕ
sender_at vertices i = option_and_then (λ (v : Vertex). if is_some v.device then None else Some i) (slice_get vertices i)

-- The vertex that a net starts from, by its name. It is no device.
unfoldable pub sender_in : List Vertex → List ℕ → Option ℕ
sender_in vertices s = option_and_then (sender_at vertices) (name_place_in (vertex_names_of vertices) s)

unfoldable pub net_source_faults : List Vertex → List ℕ → Data → List JobFault
net_source_faults vertices path d =
    text_faults (member_at path (codes "source")) (member_of (codes "source") d)
    ▹ unknown_faults (member_at path (codes "source")) (sender_in vertices (text_value (member_of (codes "source") d)))

unfoldable pub source_value : List Vertex → Data → ℕ
source_value vertices d = unwrap_or (sender_in vertices (text_value (member_of (codes "source") d))) 0

-- one of the vertices to which a net leads
unfoldable pub target_faults : List (List ℕ) → List ℕ → Data → List JobFault
target_faults vertices path d = reference_faults vertices path (Some d)

unfoldable pub target_value : List (List ℕ) → Data → ℕ
target_value vertices d = reference_value vertices (Some d)

-- a list that has an item
abbrev pub has_item : List Data → Bool
has_item [] = false
has_item (d ∷ ds) = true

-- At least one target, else Range of the list.
unfoldable pub some_faults : List ℕ → Option Data → List JobFault
some_faults path o = list_faults path true o ▹ range_unless (has_item (list_value o)) path

unfoldable pub targets_faults : List (List ℕ) → List ℕ → Data → List JobFault
targets_faults vertices path d =
    some_faults (member_at path (codes "targets")) (member_of (codes "targets") d)
    ++ items_faults (target_faults vertices) (member_at path (codes "targets")) 0 (list_member (codes "targets") d)

unfoldable pub targets_value : List (List ℕ) → Data → List ℕ
targets_value vertices d = map (target_value vertices) (list_member (codes "targets") d)

-- How many keys a net needs.
unfoldable pub keys_value : Data → ℕ
keys_value d = number_member (codes "keys") (Some 1) d

-- The block that a net must have, from version 2 on: [key,mask], a block that may be fixed for so many keys. It shares no
-- key with one that is fixed for a net before it.
abbrev pub held_faults : List Block → ℕ → List ℕ → Option Data → List JobFault
held_faults before keys path None = []
held_faults before keys path (Some d) =
    typed_faults (may_be_fixed keys) path (pair_of d) ▹ clash_if (list_any (shares_key (block_from (pair_of d))) before) path

unfoldable pub fixed_faults : ℕ → List Block → ℕ → List ℕ → Data → List JobFault
fixed_faults version before keys path d = held_faults before keys (member_at path (codes "fixed")) (member_since 2 (codes "fixed") version d)

unfoldable pub fixed_value : ℕ → Data → Option Block
fixed_value version d = option_map (λ m. block_from (pair_of m)) (member_since 2 (codes "fixed") version d)

-- A net has a name, a source and targets, and may say how many keys it needs and which.
unfoldable pub net_faults : ℕ → List Vertex → List (List ℕ) → List Block → List ℕ → Data → List JobFault
net_faults version vertices names blocks path d =
    object_faults path (Some d)
    ▹ (name_faults names path d
    ++ (net_source_faults vertices path d
    ++ (targets_faults (vertex_names_of vertices) path d
    ++ (number_member_faults path (codes "keys") 1 4294967296 (Some 1) d
    ++ fixed_faults version blocks (keys_value d) path d))))

unfoldable pub net_value : ℕ → List Vertex → Data → Net
net_value version vertices d = record {
  name = name_value d;
  source = source_value vertices d;
  targets = targets_value (vertex_names_of vertices) d;
  keys = keys_value d;
  fixed = fixed_value version d;
}

-- the names and the fixed blocks of nets
unfoldable pub net_names : List Net → List (List ℕ)
net_names nets = map (λ (n : Net). n.name) nets

unfoldable pub fixed_blocks_of : List Net → List Block
fixed_blocks_of nets = flat_map (λ (n : Net). option_to_list n.fixed) nets

-- a net after others
abbrev pub next_net_faults : ℕ → List Vertex → List Net → List ℕ → Data → List JobFault
next_net_faults version vertices before = net_faults version vertices (net_names before) (fixed_blocks_of before)

-- At most 4,096 nets.
unfoldable pub nets_faults : ℕ → List Vertex → List ℕ → Data → List JobFault
nets_faults version vertices path d =
    list_member_faults path (codes "nets") true 4096 d
    ++ following_faults (next_net_faults version vertices) (net_value version vertices) [] (member_at path (codes "nets")) 0 (list_member (codes "nets") d)

unfoldable pub nets_value : ℕ → List Vertex → Data → List Net
nets_value version vertices d = map (net_value version vertices) (list_member (codes "nets") d)

-- ---- the whole graph

-- the members of a graph, in order
unfoldable pub graph_members_faults : ℕ → List ℕ → Data → List JobFault
graph_members_faults version path d = vertices_faults version path d ++ nets_faults version (vertices_value version d) path d

unfoldable pub graph_members : ℕ → Data → Graph
graph_members version d = record { vertices = vertices_value version d; nets = nets_value version (vertices_value version d) d }

-- The graph stands in the job's member `graph`, which must be an object. The job's version says which members are read.
unfoldable pub graph_faults : List ℕ → ℕ → Data → List JobFault
graph_faults path version job =
    object_faults (member_at path (codes "graph")) (member_of (codes "graph") job)
    ▹ graph_members_faults version (member_at path (codes "graph")) (object_value (member_of (codes "graph") job))

unfoldable pub graph_value : ℕ → Data → Graph
graph_value version job = graph_members version (object_value (member_of (codes "graph") job))
