-- What loading an application makes of the parts of a host, as the private functions say it.
use Rattle.std.specs.Prelude.{◌≡◌, AllPairs, ℕ, ◌+◌, ◌%◌, ◌^◌, ◌<◌, ◌≤◌, false, zero, suc, List, [], ◌∷◌, ◌++◌, Contains, Some, length, slice_get, slice_set}
use Rattle.std.specs.Int.{IsPowerOfTwo}
use Rattle.spin_base.specs.declared.blocks.Entry.{Entry}
use Rattle.spin_base.specs.declared.chips.Chip.{Chip}
use Rattle.spin_base.specs.declared.chips.Spot.{Spot}
use Rattle.spin_base.specs.declared.copies.McCopy.{McCopy}
use Rattle.spin_base.specs.declared.copies.Packet.{Packet}
use Rattle.spin_base.specs.declared.sizes.TheConstants.{ROUTER_ENTRIES}
use Rattle.machine_desc.specs.Description.{Description}
use Rattle.machine_desc.specs.Live.{IsInside}
use Rattle.range_store.specs.Views.{Region}
use Rattle.machine_desc.specs.declared.nets.NetPlan.{NetPlan}
use Rattle.machine_desc.specs.NetsOn.{vertex_at}
use Rattle.machine_desc.specs.RightTables.{table_at}
use Rattle.net_tables.specs.PlainTable.{AreRoutedApart}
use Rattle.mesh_core.specs.State.{State}
use Rattle.mesh_core.specs.Opened.{first_copy}
use Rattle.app_loads.specs.declared.answers.LoadRefusal.TheVariants.{KeysOut}
use Rattle.app_loads.specs.declared.loaded.Claim.{Claim}
use Rattle.app_loads.specs.declared.loaded.LoadedApp.{LoadedApp}
use Rattle.app_loads.specs.declared.loaded.Range.{Range}
use Rattle.app_loads.specs.declared.plans.AppNet.{AppNet}
use Rattle.app_loads.specs.declared.plans.AppPlan.{AppPlan}
use Rattle.app_loads.specs.Host.{nets_of}
use Rattle.app_loads.specs.declared.places.Region.TheVariants.{Rows}
use Rattle.app_loads.specs.Regions.{ShareNoPlace, is_taken, place_of}
use Rattle.app_loads.specs.Claims.{claims_of, AreBlocks}
use Rattle.app_loads.specs.Taking.{AreRegionsOf, AreServedAlways, AreTakenAlways}
use Rattle.app_loads.specs.Applications.{HasRows, IsLoadedOn}
use Rattle.app_loads.specs.Opening.{usable_spots}
use Rattle.app_loads.specs.Plans.{IsPlan}

-- a range of keys that a block can name: a power of two of them, from a multiple of that number on
pub record IsKeyRange (range : Range) : Type 0 where
  pub power : IsPowerOfTwo range.size
  pub few : range.size ≤ 2 ^ 32
  pub aligned : range.place % range.size ≡ 0
  pub small : range.place < 2 ^ 32

-- each claim of keys is one of a net of the list and got such a range, and each net has one
pub record AreKeyed (claims : List Claim) (ranges : List Range) (nets : ℕ) : Type 0 where
  pub each : (i net : ℕ) (claim : Claim) (range : Range) → slice_get claims i ≡ Some claim → claim.refusal ≡ KeysOut net → slice_get ranges i ≡ Some range → IsKeyRange range × (net < nets)
  pub all : (net : ℕ) → net < nets → (i : ℕ) × (claim : Claim) × (slice_get claims i ≡ Some claim) × (claim.refusal ≡ KeysOut net)
  pub long : length ranges ≡ length claims

-- one packet more is with the vertex of its net's source
pub record IsSent (spots : List Spot) (nets : List NetPlan) (number : ℕ) (packet : Packet) (before after : List (List McCopy)) : Type 0 where
  pub net : NetPlan
  pub is_net : slice_get nets packet.net ≡ Some net
  pub vertex : ℕ
  pub is_vertex : vertex_at spots net.source ≡ Some vertex
  pub queue : List McCopy
  pub at : slice_get before vertex ≡ Some queue
  pub is : after ≡ slice_set before vertex (queue ++ first_copy number net packet ∷ [])

-- so many packets of an application, in order, are with the vertices of their nets' sources
abbrev pub AreSent : List Spot → LoadedApp → ℕ → List (List McCopy) → List (List McCopy) → Type 0
AreSent spots app zero before after = after ≡ before
AreSent spots app (suc n) before after =
    (mid : List (List McCopy)) × (packet : Packet) × AreSent spots app n before mid × (slice_get app.plan.packets n ≡ Some packet) ×
    IsSent spots (nets_of app) (app.first + n) packet mid after

-- the application's rows stand in its ranges of entries, and all other entries are as they were
pub record AreWritten (m : Description) (app : LoadedApp) (old new : List (List Entry)) : Type 0 where
  pub all : length new ≡ length old
  pub long : (c : Chip) → IsInside m c → length (table_at m new c) ≡ ROUTER_ENTRIES
  pub rows : (range : Range) → Contains app.ranges range → (c : Chip) → IsInside m c → range.region ≡ place_of m (Rows c) → HasRows m (nets_of app) c (table_at m new c) range
  pub others : (c : Chip) (k : ℕ) → IsInside m c → is_taken app.ranges (place_of m (Rows c)) k ≡ false → slice_get (table_at m new c) k ≡ slice_get (table_at m old c) k

-- The plan's application has its ranges and blocks.
pub record IsServedApp (m : Description) (old : List Region) (number first : ℕ) (plan : AppPlan) (app : LoadedApp) (new : List Region) : Type 0 where
  pub number_is : app.number ≡ number
  pub plan_is : app.plan ≡ plan
  pub first_is : app.first ≡ first
  pub served : AreServedAlways m (claims_of m plan) old app.ranges
  pub taken : AreTakenAlways m old app.ranges new
  pub blocks : AreBlocks (claims_of m plan) app.ranges plan.nets app.blocks

-- The mesh has its rows and packets.
pub record IsSettled (app : LoadedApp) (old new : State) : Type 0 where
  pub mesh : new ≡ record old { setup = record old.setup { tables = new.setup.tables }; unsent = new.unsent }
  pub sent : AreSent old.setup.spots app (length app.plan.packets) old.unsent new.unsent
  pub written : AreWritten old.setup.machine app old.setup.tables new.setup.tables

-- the queues of unsent copies of all sources are empty
abbrev pub NoneUnsent : List Spot → List AppNet → List (List McCopy) → Type 0
NoneUnsent spots nets unsent = (net : AppNet) → Contains nets net → (v : ℕ) → vertex_at spots net.source ≡ Some v → slice_get unsent v ≡ Some []

-- The regions are those of the machine, the plan can be loaded there, packets can be numbered, and the sources have nothing unsent.
pub record CanJoin (s : State) (regions : List Region) (first : ℕ) (plan : AppPlan) : Type 0 where
  pub valid : IsPlan s.setup.machine plan
  pub of_machine : AreRegionsOf s.setup.machine regions
  pub numbers : first + length plan.packets < 2 ^ 32
  pub vertices : s.setup.spots ≡ usable_spots s.setup.machine
  pub none : NoneUnsent s.setup.spots plan.nets s.unsent
  pub long : (c : Chip) → IsInside s.setup.machine c → length (table_at s.setup.machine s.setup.tables c) ≡ ROUTER_ENTRIES

-- the regions are those of the machine, on which the plan is one
pub record CanServePlan (m : Description) (held : List Region) (of_app : AppPlan) : Type 0 where
  pub plan : IsPlan m of_app
  pub regions : AreRegionsOf m held

-- the application's nets have trees and a block each, and no two blocks share a key
pub record HasRoutes (m : Description) (app : LoadedApp) : Type 0 where
  pub routed : AreRoutedApart m (nets_of app)
  pub blocks : length app.blocks ≡ length app.plan.nets

-- the application is a loaded one, whose ranges are its own
pub record CanSettle (s : State) (app : LoadedApp) : Type 0 where
  pub loaded : IsLoadedOn s.setup.machine app
  pub apart : AllPairs ShareNoPlace app.ranges
  pub numbers : app.first + length app.plan.packets < 2 ^ 32
  pub vertices : s.setup.spots ≡ usable_spots s.setup.machine
  pub none : NoneUnsent s.setup.spots app.plan.nets s.unsent
  pub long : (c : Chip) → IsInside s.setup.machine c → length (table_at s.setup.machine s.setup.tables c) ≡ ROUTER_ENTRIES
