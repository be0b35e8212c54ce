-- Where a target's copy of a packet is, as an answer tells it.
use Rattle.std.specs.Prelude.{◌≡◌, ℕ, List, Contains, Some, IsTrue, count_by, slice_get}
use Rattle.spin_base.specs.declared.chips.Spot.{Spot}
use Rattle.spin_base.specs.declared.copies.McCopy.{McCopy}
use Rattle.machine_desc.specs.Branch.{Exit}
use Rattle.machine_desc.specs.declared.nets.NetPlan.{NetPlan}
use Rattle.machine_desc.specs.RightTables.{IsKeyOf}
use Rattle.machine_desc.specs.NetsOn.{IsWayOn}
use Rattle.mesh_core.specs.declared.places.Place.TheVariants.{InQueue, Hand as HandAt, CoreQueue}
use Rattle.mesh_core.specs.declared.places.Where.{Where}
use Rattle.mesh_core.specs.declared.places.Where.TheVariants.{Unsent, At, Delivered, Dumped}
use Rattle.mesh_core.specs.State.{State}
use Rattle.mesh_core.specs.Trail.{Station, unsent, in_queue, in_hand, at_core, delivered, dumped, Mark, is_packet_on_trail}
use Rattle.mesh_core.specs.Ledger.{Label, MeetsLedger, marks_of}

-- An answer tells the station of a copy: unsent, its queue or hand, the queue of the core on which its vertex stands,
-- or its place in the list of deliveries or of dump records (this project's own).
abbrev pub TellsStation : State → McCopy → Station → Where → Type 0
TellsStation s k (unsent v) w = w ≡ Unsent
TellsStation s k (in_queue c port) w = w ≡ At (InQueue c port)
TellsStation s k (in_hand c o) w = w ≡ At (HandAt c o)
TellsStation s k (at_core v) w = (spot : Spot) × (slice_get s.setup.spots v ≡ Some spot) × (w ≡ At (CoreQueue spot.chip spot.core))
TellsStation s k (delivered v) w = (i : ℕ) × (slice_get s.delivered i ≡ Some (record { vertex = v; copy = k })) × (w ≡ Delivered i)
TellsStation s k (dumped c o) w = (i : ℕ) × (slice_get s.dumped i ≡ Some (record { chip = c; out = o; copy = k })) × (w ≡ Dumped i)

-- The target's copy of the packet is where the answer tells: exactly one mark of the packet is on the target's trail, and
-- the answer tells the station of that mark.
pub record IsFoundThere (s : State) (packet : ℕ) (branch : List Exit) (from to : ℕ) (w : Where) : Type 0 where
  pub only_one : count_by (is_packet_on_trail packet from to branch) (marks_of s) ≡ 1
  pub mark : Mark
  pub is_mark : Contains (marks_of s) mark
  pub on_trail : IsTrue (is_packet_on_trail packet from to branch mark)
  pub told : TellsStation s mark.copy mark.station w

-- An answer is where a target's copy of a packet of a net is: it tells it on every way of the net to the target.
abbrev pub IsWhere : State → NetPlan → ℕ → Spot → Where → Type 0
IsWhere s net packet target w =
    (branch : List Exit) (from to : ℕ) → IsWayOn s.setup.machine s.setup.spots net target branch from to → IsFoundThere s packet branch from to w

-- A packet of a net is tracked where the mesh meets the ledger of some list of nets that has this net, and some mark of
-- the packet has a key of the net's block.
pub record IsTracked (s : State) (net : NetPlan) (packet : ℕ) : Type 0 where
  pub nets : List NetPlan
  pub labels : ℕ → Label
  pub ledger : MeetsLedger s nets labels
  pub in_nets : Contains nets net
  pub mark : Mark
  pub is_mark : Contains (marks_of s) mark
  pub is_packet : mark.copy.packet ≡ packet
  pub is_key : IsKeyOf net.block mark.copy.key
