-- The mesh of a job before the first event.
use Rattle.std.specs.Prelude.{◌≡◌, ℕ, ◌+◌, ◌*◌, ◌==◌, false, List, [], map, length, replicate, Option, Some, None, if◌then◌else◌, slice_get}
use Rattle.std.specs.Option.{option_map_or}
use Rattle.std.specs.List.{range_with_len, filter_map, enumerate_from}
use Rattle.spin_base.specs.declared.chips.Spot.{Spot}
use Rattle.spin_base.specs.declared.copies.McCopy.{McCopy}
use Rattle.spin_base.specs.declared.copies.Packet.{Packet}
use Rattle.machine_desc.specs.declared.nets.NetPlan.{NetPlan}
use Rattle.machine_desc.specs.RightTables.{IsKeyOf}
use Rattle.machine_desc.specs.NetsOn.{vertex_at}
use Rattle.mesh_core.specs.State.{Setup, State}
use Rattle.mesh_core.specs.Ledger.{Label, Asked, MeetsLedgerFor}

-- the mesh without a copy
abbrev pub empty_mesh : Setup → State
empty_mesh u = record {
  setup = u;
  unsent = replicate (length u.spots) [];
  inputs = replicate (7 * (u.machine.width * u.machine.height)) [];
  hands = replicate (u.machine.width * u.machine.height) None;
  cores = replicate (length u.spots) [];
  delivered = [];
  dumped = [];
}

-- the key and payload of a packet of a net: the key is the block's key and the packet's place in the block
abbrev pub label_in : NetPlan → Packet → Label
label_in net p = record { key = net.block.key + p.index; payload = p.payload }

-- the copy of packet number i, of this net, before it is sent
abbrev pub first_copy : ℕ → NetPlan → Packet → McCopy
first_copy i net p = record { packet = i; key = net.block.key + p.index; payload = p.payload; hop = 0 }

-- the copy of packet number i, where this vertex sends it
abbrev pub copy_from : List Spot → ℕ → ℕ → Packet → Option NetPlan → Option McCopy
copy_from spots v i p (Some net) =
    if option_map_or (λ w. w == v) (vertex_at spots net.source) false then Some (first_copy i net p) else None
copy_from spots v i p None = None

-- A vertex has as unsent the copies of its nets' packets, in the order of the list.
abbrev pub unsent_of : List Spot → List NetPlan → List Packet → ℕ → List McCopy
unsent_of spots nets packets v =
    filter_map (λ (e : ℕ × Packet). copy_from spots v e.0 e.1 (slice_get nets e.1.net)) (enumerate_from 0 packets)

-- The opened mesh of a job has the job's machine, the spots of its vertices, the job's tables and capacity, nothing
-- waiting, delivered or dumped, and each vertex's packets unsent (this project's own).
abbrev pub opened_mesh : Setup → List NetPlan → List Packet → State
opened_mesh u nets packets =
    record (empty_mesh u) { unsent = map (unsent_of u.spots nets packets) (range_with_len 0 (length u.spots)) }

-- a packet asks for its net, with the key and payload of a packet of that net
abbrev pub asked_in : Packet → Option NetPlan → Option Asked
asked_in p (Some net) = Some (record { net = net; label = label_in net p })
asked_in p None = None

abbrev pub asked_at : List NetPlan → Option Packet → Option Asked
asked_at nets (Some p) = asked_in p (slice_get nets p.net)
asked_at nets None = None

-- A job asks for the packets of its list, each by its place in the list.
abbrev pub asked_by : List NetPlan → List Packet → ℕ → Option Asked
asked_by nets packets i = asked_at nets (slice_get packets i)

-- Each packet of a job is of one of its nets, and has a key of the net's block.
abbrev pub AreOfNets : List NetPlan → List Packet → Type 0
AreOfNets nets packets = (i : ℕ) (p : Packet) → slice_get packets i ≡ Some p →
    (net : NetPlan) × (slice_get nets p.net ≡ Some net) × IsKeyOf net.block (net.block.key + p.index)

-- The ledger of a job: each packet is of one of its nets and has a key of the net's block, and the mesh meets the ledger of
-- the packets that the job asks for.
pub record MeetsJobLedger (s : State) (nets : List NetPlan) (packets : List Packet) : Type 0 where
  pub of_nets : AreOfNets nets packets
  pub ledger : MeetsLedgerFor s nets (asked_by nets packets)
