-- The packets of one application among all that a mesh has: which of them are under way, and what leaves with the application
-- when it is unloaded (this project's own).
use Rattle.std.specs.Prelude.{◌≡◌, ℕ, ◌+◌, ◌≤◌, ◌==◌, Bool, true, not, ◌&&◌, nat_le, nat_lt, min, List, [], ◌∷◌, Option, Some, None, if◌then◌else◌, Contains, length, map, filter, slice_index_or}
use Rattle.spin_base.specs.declared.blocks.Entry.{Entry}
use Rattle.spin_base.specs.declared.copies.Delivery.{Delivery}
use Rattle.spin_base.specs.declared.copies.DumpRec.{DumpRec}
use Rattle.spin_base.specs.declared.copies.McCopy.{McCopy}
use Rattle.mesh_core.specs.State.{State, Hand}
use Rattle.mesh_core.specs.Ledger.{marks_of}
use Rattle.mesh_core.specs.Trail.{Mark, IsUnderWayAt}
use Rattle.app_loads.specs.declared.leaving.Parted.{Parted}
use Rattle.app_loads.specs.declared.loaded.LoadedApp.{LoadedApp}

-- whether a packet number is one of the application's
abbrev pub is_packet_of : LoadedApp → ℕ → Bool
is_packet_of app i = nat_le app.first i && nat_lt i (app.first + length app.plan.packets)

-- a copy of one of the application's packets, of this number, is unsent or waits in the mesh
abbrev pub WaitsIn : State → LoadedApp → ℕ → Type 0
WaitsIn s app packet = (is_packet_of app packet ≡ true) × ((k : Mark) × Contains (marks_of s) k × (k.copy.packet ≡ packet) × IsUnderWayAt k.station)

-- no copy of the application's packets is unsent or waits
abbrev pub NoneUnderWay : State → LoadedApp → Type 0
NoneUnderWay s app = (packet : ℕ) → WaitsIn s app packet → ⊥

-- of the application's packets of which a copy is unsent or waits, this is the one of the least number
abbrev pub IsLeastUnderWay : State → LoadedApp → ℕ → Type 0
IsLeastUnderWay s app packet = WaitsIn s app packet × ((other : ℕ) → WaitsIn s app other → packet ≤ other)

-- the packet number, where it is one of the application's
abbrev pub own_packet : LoadedApp → ℕ → Option ℕ
own_packet app packet = if is_packet_of app packet then Some packet else None

-- the lesser of two numbers, each of which may be missing
abbrev pub lesser_of : Option ℕ → Option ℕ → Option ℕ
lesser_of None other = other
lesser_of (Some a) None = Some a
lesser_of (Some a) (Some b) = Some (min a b)

-- the least of those of the packet numbers that are the application's
abbrev pub least_own_packet : LoadedApp → List ℕ → Option ℕ
least_own_packet app [] = None
least_own_packet app (packet ∷ packets) = lesser_of (own_packet app packet) (least_own_packet app packets)

-- the packets of the copies of a queue
abbrev pub packet_numbers_of : List McCopy → List ℕ
packet_numbers_of copies = map (λ (k : McCopy). k.packet) copies

-- the packets of the copies that a vertex has unsent
abbrev pub unsent_numbers : List (List McCopy) → ℕ → List ℕ
unsent_numbers queues v = packet_numbers_of (slice_index_or queues v [])

-- the packet of the copy in a router's hand, if it has one
abbrev pub held_packets : Option Hand → List ℕ
held_packets (Some held) = held.copy.packet ∷ []
held_packets None = []

-- whether a delivery is of a packet of the application
abbrev pub is_delivery_of : LoadedApp → Delivery → Bool
is_delivery_of app d = is_packet_of app d.copy.packet

-- whether a dump record is of a packet of the application
abbrev pub is_record_of : LoadedApp → DumpRec → Bool
is_record_of app r = is_packet_of app r.copy.packet

-- The deliveries and dump records of the application's packets, and those of all others, each in the order in which they came.
pub record IsPartedBy (app : LoadedApp) (s : State) (parted : Parted) : Type 0 where
  pub delivered : parted.left.delivered ≡ filter (is_delivery_of app) s.delivered
  pub dumped : parted.left.dumped ≡ filter (is_record_of app) s.dumped
  pub others_delivered : parted.delivered ≡ filter (λ d. not (is_delivery_of app d)) s.delivered
  pub others_dumped : parted.dumped ≡ filter (λ r. not (is_record_of app r)) s.dumped

-- the applications but for the one of this number, in order
abbrev pub others_than : ℕ → List LoadedApp → List LoadedApp
others_than number apps = filter (λ (other : LoadedApp). not (other.number == number)) apps

-- the mesh with other tables, and without the deliveries and dump records of the application's packets
abbrev pub mesh_without : LoadedApp → List (List Entry) → State → State
mesh_without app tables s = record s {
  setup = record s.setup { tables = tables };
  delivered = filter (λ d. not (is_delivery_of app d)) s.delivered;
  dumped = filter (λ r. not (is_record_of app r)) s.dumped;
}
