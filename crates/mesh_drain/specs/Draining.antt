-- Meshes that can be drained, and what is reached by events (this project's own).
use Rattle.std.specs.Prelude.{◌≡◌, ◌≢◌, ◌<◌, ◌≤◌, ◌==◌, if◌then◌else◌, ℕ, List, [], ◌∷◌, ◌++◌, All, Contains, Some, length, map, slice_get, slice_set}
use Rattle.spin_base.specs.declared.blocks.Entry.{Entry}
use Rattle.spin_base.specs.declared.chips.Port.{Port}
use Rattle.spin_base.specs.declared.copies.Event.{Event}
use Rattle.spin_base.specs.declared.copies.Delivery.{Delivery}
use Rattle.spin_base.specs.declared.copies.McCopy.{McCopy}
use Rattle.spin_base.specs.declared.copies.DumpRec.{DumpRec}
use Rattle.spin_base.specs.Lookup.{lookup}
use Rattle.machine_desc.specs.declared.nets.NetPlan.{NetPlan}
use Rattle.machine_desc.specs.RightTables.{AreRight}
use Rattle.spin_base.specs.declared.copies.Event.TheVariants.{Inject, Take, Send, Dump, Collect}
use Rattle.mesh_core.specs.State.{Setup, State, IsMesh, Queue, input, core, nowhere, behind}
use Rattle.mesh_core.specs.Step.{after_event, after_events}
use Rattle.mesh_core.specs.Ledger.{Label, MeetsLedger, OnlyUnderWay}
use Rattle.mesh_core.specs.Expected.{NothingWaits}
use Rattle.mesh_core.specs.HasRun.{DropsNone}

-- The mesh meets the ledger of some nets, for which its tables are right.
pub record MeetsSomeLedger (s : State) : Type 0 where
  pub mesh : IsMesh s
  pub nets : List NetPlan
  pub labels : ℕ → Label
  pub right : AreRight s.setup.machine s.setup.tables nets
  pub ledger : MeetsLedger s nets labels

-- No copy waits, and the mesh meets the ledger of some nets: a vertex may send.
pub record MaySend (s : State) : Type 0 where
  pub kept : MeetsSomeLedger s
  pub quiet : NothingWaits s

-- Besides, the vertex is there, and has a packet unsent.
pub record CanSendFirst (s : State) (v : ℕ) : Type 0 where
  pub may : MaySend s
  pub there : v < length s.setup.spots
  pub some : slice_get s.unsent v ≢ Some []

-- A mesh is reached from another by events of which none drops a copy.
pub record IsReachedDropless (before after : State) : Type 0 where
  pub events : List Event
  pub dropless : All DropsNone events
  pub is : after ≡ after_events before events

-- an event of a packet under way sends no other packet, and drops no copy
abbrev pub IsOnward : Event → Type 0
IsOnward (Inject v) = ⊥
IsOnward (Take c port) = Unit {0}
IsOnward (Send c o) = Unit {0}
IsOnward (Dump c o) = ⊥
IsOnward (Collect v) = Unit {0}

-- A mesh is reached from another by events of packets under way.
pub record IsReachedOnward (before after : State) : Type 0 where
  pub events : List Event
  pub onward : All IsOnward events
  pub is : after ≡ after_events before events

-- Two keys are alike where each router's table gives both the same, at each port.
abbrev pub AreRoutedAlike : Setup → ℕ → ℕ → Type 0
AreRoutedAlike u key other = All (λ (table : List Entry). (port : Port) → lookup table key port ≡ lookup table other port) u.tables

-- the same delivery, but of this packet, with the packet's key in place of that one
abbrev pub of_packet : ℕ → McCopy → Delivery → Delivery
of_packet key k d = record {
  vertex = d.vertex;
  copy = record { packet = k.packet; key = if d.copy.key == key then k.key else d.copy.key; payload = k.payload; hop = d.copy.hop };
}

-- Whenever a vertex may send a packet with a key alike to this one first, it is brought by events of which none drops a copy, and its
-- deliveries are these, but of its number, key and payload: a router looks at nothing of a copy but its hop number and what its table
-- gives the key.
abbrev pub BringsAlways : Setup → ℕ → ℕ → List Delivery → Type 0
BringsAlways u v key come =
    (s : State) (k : McCopy) (rest : List McCopy) → MaySend s → s.setup ≡ u → slice_get s.unsent v ≡ Some (k ∷ rest) → AreRoutedAlike u key k.key →
    IsReachedDropless s (record s { unsent = slice_set s.unsent v rest; delivered = s.delivered ++ map (of_packet key k) come })

-- Deliveries have come, and so they come whenever the vertex sends a packet with a key alike to this one.
pub record HasBrought (before after : State) (v key : ℕ) : Type 0 where
  pub come : List Delivery
  pub is : after.delivered ≡ before.delivered ++ come
  pub always : BringsAlways before.setup v key come

-- A mesh is reached from another by events.
pub record IsAfter (before after : State) : Type 0 where
  pub events : List Event
  pub is : after ≡ after_events before events

-- No copy waits, and no vertex but these has packets unsent.
pub record SendAlone (vertices : List ℕ) (s : State) : Type 0 where
  pub quiet : NothingWaits s
  pub there : All (λ v. v < length s.setup.spots) vertices
  pub others : (v : ℕ) (k : McCopy) (rest : List McCopy) → slice_get s.unsent v ≡ Some (k ∷ rest) → Contains vertices v

-- Where the packets of which a copy is unsent or waits are no more than a queue has places, no dump record has come.
abbrev pub DropsNoneWhereRoomy : State → State → Type 0
DropsNoneWhereRoomy before after =
    (numbers : List ℕ) → OnlyUnderWay numbers before → length numbers ≤ before.setup.capacity → after.dumped ≡ before.dumped

-- It is reached so, and where nothing waited before, none of the events drops a copy, and no dump record has come.
pub record IsMoved (before after : State) : Type 0 where
  pub events : List Event
  pub is : after ≡ after_events before events
  pub dropless : NothingWaits before → All DropsNone events
  pub no_record : NothingWaits before → after.dumped ≡ before.dumped

-- The mesh after the vertex of a queue took a copy from it, where the queue is a vertex's.
abbrev pub collected_from : State → Queue → State
collected_from s (input i) = s
collected_from s (core v) = after_event s (Collect v)
collected_from s nowhere = s

-- an event by which no copy comes into a queue
abbrev pub SendsNone : Event → Type 0
SendsNone (Inject v) = ⊥
SendsNone (Take c port) = Unit {0}
SendsNone (Send c o) = ⊥
SendsNone (Dump c o) = Unit {0}
SendsNone (Collect v) = Unit {0}

-- No copy waits for a vertex.
abbrev pub AreCollected : State → Type 0
AreCollected s = All (λ q. q ≡ []) s.cores

-- At ports and in hands the same waits.
pub record IsSameBesidesCores (before after : State) : Type 0 where
  pub inputs : after.inputs ≡ before.inputs
  pub hands : after.hands ≡ before.hands

-- A dump record is at an output that leads to no vertex: neither to a core's nor to a device's.
abbrev pub LeadsToNoVertex : Setup → DumpRec → Type 0
LeadsToNoVertex u r = (v : ℕ) → behind u r.chip r.out ≢ core v

-- The dump records that have come are all at outputs that lead to no vertex.
pub record DropsAtNoVertex (before after : State) : Type 0 where
  pub come : List DumpRec
  pub is : after.dumped ≡ before.dumped ++ come
  pub lead_on : All (LeadsToNoVertex before.setup) come
