-- The vertices that send the packets of a job (this project's own).
use Rattle.std.specs.Prelude.{◌≡◌, ℕ, ◌*◌, ◌^◌, ◌<◌, List, All, Contains, length, map, unwrap_or}
use Rattle.spin_base.specs.declared.chips.Spot.{Spot}
use Rattle.spin_base.specs.declared.copies.Packet.{Packet}
use Rattle.machine_desc.specs.declared.nets.NetPlan.{NetPlan}
use Rattle.machine_desc.specs.NetsOn.{vertex_at}
use Rattle.mesh_core.specs.State.{Setup}
use Rattle.mesh_core.specs.Opened.{AreOfNets}

-- the vertex on the spot of a net's source
abbrev pub source_vertex_of : List Spot → NetPlan → ℕ
source_vertex_of spots net = unwrap_or (vertex_at spots net.source) 0

-- A mesh can be opened with packets: each chip has a table, each net's source is a vertex, and the packets are fewer than 2 ^ 32
-- and of these nets.
pub record CanOpen (u : Setup) (nets : List NetPlan) (packets : List Packet) : Type 0 where
  pub tables : length u.tables ≡ u.machine.width * u.machine.height
  pub sources : All (λ net. Contains u.spots net.source) nets
  pub few : length packets < 2 ^ 32
  pub of_nets : AreOfNets nets packets

-- Besides, the list has the vertex of each net.
pub record AreListed (u : Setup) (nets : List NetPlan) (packets : List Packet) (list : List ℕ) : Type 0 where
  pub can : CanOpen u nets packets
  pub vertices : list ≡ map (source_vertex_of u.spots) nets
