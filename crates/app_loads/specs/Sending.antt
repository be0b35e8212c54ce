-- Packets put to the vertices of their nets' sources, as the private functions say it.
use Rattle.std.specs.Prelude.{◌≡◌, ℕ, ◌+◌, ◌^◌, ◌<◌, List, [], ◌++◌, All, Contains, Option, Some, length, slice_get, unwrap_or}
use Rattle.spin_base.specs.declared.blocks.Block.{Block}
use Rattle.spin_base.specs.declared.chips.Spot.{Spot}
use Rattle.spin_base.specs.declared.copies.McCopy.{McCopy}
use Rattle.spin_base.specs.declared.copies.Packet.{Packet}
use Rattle.machine_desc.specs.Live.{IsInside}
use Rattle.machine_desc.specs.NetsOn.{vertex_at}
use Rattle.mesh_core.specs.State.{Setup, State, vertex_behind}
use Rattle.std.specs.List.{flat_map}
use Rattle.std.specs.Option.{option_to_list}
use Rattle.spin_base.specs.declared.routes.Out.TheVariants.{Core}
use Rattle.app_loads.specs.declared.loaded.LoadedApp.{LoadedApp}
use Rattle.app_loads.specs.declared.plans.AppNet.{AppNet}
use Rattle.app_loads.specs.Joining.{NoneUnsent}

-- the net's source is a spot of the machine, and has a vertex
pub record IsSendingFrom (u : Setup) (net : AppNet) : Type 0 where
  pub inside : IsInside u.machine net.source.chip
  pub core : net.source.core < 24
  pub vertex : ℕ
  pub is : vertex_at u.spots net.source ≡ Some vertex

-- the vertex of a net's source, if there is one
abbrev pub source_vertex : List Spot → AppNet → List ℕ
source_vertex spots net = option_to_list (vertex_behind spots net.source.chip (Core net.source.core))

-- the same, and 0 where there is none
abbrev pub source_at : List Spot → AppNet → ℕ
source_at spots net = unwrap_or (vertex_at spots net.source) 0

-- The vertices were known before, and those of the nets' sources came to them.
pub record AreWithSources (s : State) (nets : List AppNet) (before : Option (List ℕ)) (vertices : List ℕ) : Type 0 where
  pub was : List ℕ
  pub is : before ≡ Some was
  pub all : vertices ≡ was ++ flat_map (source_vertex s.setup.spots) nets

-- each net's source has the vertex of its place in the list
pub record AreSources (spots : List Spot) (nets : List AppNet) (sources : List ℕ) : Type 0 where
  pub all : length sources ≡ length nets
  pub each : (i v : ℕ) (net : AppNet) → slice_get nets i ≡ Some net → slice_get sources i ≡ Some v → vertex_at spots net.source ≡ Some v

-- the packet is of a net of the list, and its key and number are numbers of 32 bits
pub record IsPacketOn (blocks : List Block) (sources : ℕ) (packet : Packet) : Type 0 where
  pub net : packet.net < sources
  pub block : Block
  pub is : slice_get blocks packet.net ≡ Some block
  pub key : block.key + packet.index < 2 ^ 32

-- each vertex of the list has a queue, and each packet can be numbered and has a key
pub record CanAdd (sources : List ℕ) (app : LoadedApp) (unsent : List (List McCopy)) : Type 0 where
  pub queues : All (λ v. v < length unsent) sources
  pub packets : All (IsPacketOn app.blocks (length sources)) app.plan.packets
  pub blocks : length app.blocks ≡ length app.plan.nets
  pub each_net : length sources ≡ length app.plan.nets
  pub numbers : app.first + length app.plan.packets < 2 ^ 32

-- the application's packets can be sent on the setup, and its sources have nothing unsent
pub record CanSend (u : Setup) (app : LoadedApp) (unsent : List (List McCopy)) : Type 0 where
  pub sources : All (IsSendingFrom u) app.plan.nets
  pub queues : length unsent ≡ length u.spots
  pub packets : All (IsPacketOn app.blocks (length app.plan.nets)) app.plan.packets
  pub blocks : length app.blocks ≡ length app.plan.nets
  pub numbers : app.first + length app.plan.packets < 2 ^ 32
  pub none : NoneUnsent u.spots app.plan.nets unsent

-- the queues of all other vertices are the same
pub record IsSameBeside (sources : List ℕ) (old new : List (List McCopy)) : Type 0 where
  pub long : length new ≡ length old
  pub others : (v : ℕ) → (Contains sources v → ⊥) → slice_get new v ≡ slice_get old v

-- the queues of these vertices are empty, and all others the same
pub record AreCleared (sources : List ℕ) (old new : List (List McCopy)) : Type 0 where
  pub beside : IsSameBeside sources old new
  pub empty : (v : ℕ) → Contains sources v → slice_get new v ≡ Some []
