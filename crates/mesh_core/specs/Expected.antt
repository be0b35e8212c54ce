-- Which deliveries a job asks for.
use Rattle.std.specs.Prelude.{◌≡◌, ℕ, ◌<◌, ◌≤◌, ◌==◌, ◌&&◌, ◌⊎◌, if◌then◌else◌, All, Contains, List, [], ◌∷◌, Option, None, Some, count_by, length, slice_get}
use Rattle.std.specs.List.{list_any, sum_by}
use Rattle.spin_base.specs.Gathered.{gathered}
use Rattle.spin_base.specs.declared.chips.Spot.{Spot}
use Rattle.spin_base.specs.declared.copies.Delivery.{Delivery}
use Rattle.spin_base.specs.declared.copies.Packet.{Packet}
use Rattle.spin_base.specs.Equality.{spot_eq}
use Rattle.machine_desc.specs.Branch.{Exit}
use Rattle.machine_desc.specs.declared.nets.NetPlan.{NetPlan}
use Rattle.mesh_core.specs.State.{State}
use Rattle.machine_desc.specs.NetsOn.{IsWayOn}
use Rattle.mesh_core.specs.Opened.{first_copy}

-- a delivery that a job asks for: a copy of one of its packets, at the vertex of a target of the packet's net, which has
-- passed as many routers as the target's branch has chips
pub record IsAskedFor (s : State) (nets : List NetPlan) (packets : List Packet) (d : Delivery) : Type 0 where
  pub number : ℕ
  pub packet : Packet
  pub net : NetPlan
  pub target : Spot
  pub branch : List Exit
  pub from : ℕ
  pub is_packet : slice_get packets number ≡ Some packet
  pub is_net : slice_get nets packet.net ≡ Some net
  pub is_way : IsWayOn s.setup.machine s.setup.spots net target branch from d.vertex
  pub is_copy : d.copy ≡ record (first_copy number net packet) { hop = length branch }

-- The deliveries are those that the job asks for: for each packet and each target of its net one, and no other.
pub record AreAsExpected (s : State) (nets : List NetPlan) (packets : List Packet) : Type 0 where
  pub no_other : (d : Delivery) → Contains s.delivered d → IsAskedFor s nets packets d
  pub each_once : (i : ℕ) (p : Packet) (net : NetPlan) → slice_get packets i ≡ Some p → slice_get nets p.net ≡ Some net →
      (target : Spot) (branch : List Exit) (from to : ℕ) → IsWayOn s.setup.machine s.setup.spots net target branch from to →
      count_by (λ (d : Delivery). (d.copy.packet == i) && (d.vertex == to)) s.delivered ≡ 1

-- Nothing waits: every queue and hand is empty.
pub record NothingWaits (s : State) : Type 0 where
  pub inputs_empty : All (λ q. q ≡ []) s.inputs
  pub hands_empty : All (λ h. h ≡ None) s.hands
  pub cores_empty : All (λ q. q ≡ []) s.cores

-- At rest nothing waits, and each vertex has sent its packets.
pub record IsAtRest (s : State) : Type 0 where
  pub waits : NothingWaits s
  pub all_sent : All (λ q. q ≡ []) s.unsent

-- ---- the same as a list, without hop numbers

-- a delivery as a report tells it: the hop number is left out, that is, 0
abbrev pub without_hop : Delivery → Delivery
without_hop d = record { vertex = d.vertex; copy = record d.copy { hop = 0 } }

-- what a vertex on this spot gets of a packet of this number and net: a copy, where the spot is a target of the net
abbrev pub delivery_at : ℕ → NetPlan → Packet → ℕ → Spot → List Delivery
delivery_at i net p v spot =
    if list_any (spot_eq spot) net.targets then record { vertex = v; copy = first_copy i net p } ∷ [] else []

-- what all vertices get of a packet, in the order of their positions
abbrev pub deliveries_of : List Spot → ℕ → Packet → Option NetPlan → List Delivery
deliveries_of spots i p (Some net) = gathered (delivery_at i net p) 0 spots
deliveries_of spots i p None = []

-- The deliveries that a job asks for: packets in the order of their numbers, and of each packet a copy for each target of its
-- net, in the order of the positions of their vertices (this project's own).
abbrev pub expected_deliveries : List Spot → List NetPlan → List Packet → List Delivery
expected_deliveries spots nets packets = gathered (λ i p. deliveries_of spots i p (slice_get nets p.net)) 0 packets

-- the order of a report: by the packet's number, then by the position of the vertex
abbrev pub IsDeliveryNotAfter : Delivery → Delivery → Type 0
IsDeliveryNotAfter a b = (a.copy.packet < b.copy.packet) ⊎ ((a.copy.packet ≡ b.copy.packet) × (a.vertex ≤ b.vertex))

-- how many targets the net of a packet has
abbrev pub targets_of_net : Option NetPlan → ℕ
targets_of_net (Some net) = length net.targets
targets_of_net None = 0

-- The number of deliveries that a job asks for: over all packets, the number of targets of the packet's net.
abbrev pub expected_count : List NetPlan → List Packet → ℕ
expected_count nets packets = sum_by (λ (p : Packet). targets_of_net (slice_get nets p.net)) packets
