-- The ledger of copies: each target's copy of each packet is in exactly one place of its trail.
use Rattle.std.specs.Prelude.{◌≡◌, ℕ, ◌/◌, ◌%◌, IsTrue, List, [], ◌∷◌, ◌++◌, map, Contains, Option, Some, None, count_by, slice_index_or}
pub use Rattle.spin_base.specs.Gathered.{gathered}
use Rattle.spin_base.specs.Links.{all_dirs}
use Rattle.spin_base.specs.declared.chips.Chip.{Chip}
use Rattle.spin_base.specs.declared.chips.Spot.{Spot}
use Rattle.spin_base.specs.declared.chips.Port.{Port}
use Rattle.spin_base.specs.declared.chips.Port.TheVariants.{Link as ByLink, Local}
use Rattle.spin_base.specs.declared.copies.McCopy.{McCopy}
use Rattle.spin_base.specs.declared.copies.Delivery.{Delivery}
use Rattle.spin_base.specs.declared.copies.DumpRec.{DumpRec}
use Rattle.machine_desc.specs.Live.{chip_of}
use Rattle.machine_desc.specs.Branch.{Exit}
use Rattle.machine_desc.specs.declared.nets.NetPlan.{NetPlan}
use Rattle.machine_desc.specs.RightTables.{IsKeyOf}
use Rattle.machine_desc.specs.NetsOn.{AreNetsOn, IsWayOn}
use Rattle.mesh_core.specs.State.{State, Hand}
use Rattle.mesh_core.specs.Trail.{Station, unsent, in_queue, in_hand, at_core, delivered, dumped, Mark, IsUnderWayAt, is_on_trail, is_packet_on_trail}

-- the ports of a chip, in the order of their numbers
abbrev pub all_ports : List Port
all_ports = map ByLink all_dirs ++ Local ∷ []

-- the port of a number below 7
abbrev pub port_of : ℕ → Port
port_of n = slice_index_or all_ports n Local

-- a mark for each copy of a list, at one station
abbrev pub marks_at : Station → List McCopy → List Mark
marks_at station copies = map (λ k. record { copy = k; station = station }) copies

-- a mark for each output that a hand still has to serve
abbrev pub hand_marks : Chip → Option Hand → List Mark
hand_marks c (Some h) = map (λ o. record { copy = h.copy; station = in_hand c o }) h.outs
hand_marks c None = []

abbrev pub unsent_marks : State → List Mark
unsent_marks s = gathered (λ v copies. marks_at (unsent v) copies) 0 s.unsent

abbrev pub input_marks : State → List Mark
input_marks s = gathered (λ i copies. marks_at (in_queue (chip_of s.setup.machine (i / 7)) (port_of (i % 7))) copies) 0 s.inputs

abbrev pub all_hand_marks : State → List Mark
all_hand_marks s = gathered (λ i h. hand_marks (chip_of s.setup.machine i) h) 0 s.hands

abbrev pub core_marks : State → List Mark
core_marks s = gathered (λ v copies. marks_at (at_core v) copies) 0 s.cores

abbrev pub delivered_marks : State → List Mark
delivered_marks s = map (λ (d : Delivery). record { copy = d.copy; station = delivered d.vertex }) s.delivered

abbrev pub dumped_marks : State → List Mark
dumped_marks s = map (λ (r : DumpRec). record { copy = r.copy; station = dumped r.chip r.out }) s.dumped

-- The marks of a mesh: one for each unsent copy, each copy in a queue, each output of each hand, each delivery and
-- each dump record (this project's own).
abbrev pub marks_of : State → List Mark
marks_of s = unsent_marks s ++ (input_marks s ++ (all_hand_marks s ++ (core_marks s ++ (delivered_marks s ++ dumped_marks s))))

-- Only packets of these numbers are under way: each copy that is unsent or waits is of one of them.
abbrev pub OnlyUnderWay : List ℕ → State → Type 0
OnlyUnderWay numbers s = (k : Mark) → Contains (marks_of s) k → IsUnderWayAt k.station → Contains numbers k.copy.packet

-- what all copies of a packet have in common
pub record Label : Type 0 where
  pub key : ℕ
  pub payload : Option ℕ

-- The ledger of copies. The nets stand on the mesh, and each packet number has a key and a payload, so that
-- - all marks of a number have its key and payload;
-- - each mark is on the trail of a target of the net whose block has its key;
-- - for each number that has a mark, and each target of its net, exactly one mark of the number is on that target's
--   trail.
pub record MeetsLedger (s : State) (nets : List NetPlan) (labels : ℕ → Label) : Type 0 where
  pub nets_stand : AreNetsOn s.setup.machine s.setup.spots nets
  pub labelled : (k : Mark) → Contains (marks_of s) k →
      (k.copy.key ≡ (labels k.copy.packet).key) × (k.copy.payload ≡ (labels k.copy.packet).payload)
  pub on_a_trail : (k : Mark) → Contains (marks_of s) k →
      (net : NetPlan) × Contains nets net × IsKeyOf net.block k.copy.key ×
      ((target : Spot) × (branch : List Exit) × (from : ℕ) × (to : ℕ) ×
      IsWayOn s.setup.machine s.setup.spots net target branch from to × IsTrue (is_on_trail from to branch k))
  pub once_on_each : (k : Mark) → Contains (marks_of s) k →
      (net : NetPlan) → Contains nets net → IsKeyOf net.block k.copy.key →
      (target : Spot) (branch : List Exit) (from to : ℕ) → IsWayOn s.setup.machine s.setup.spots net target branch from to →
      count_by (is_packet_on_trail k.copy.packet from to branch) (marks_of s) ≡ 1

-- a packet that somebody asked for: its net, and the key and payload of its copies
pub record Asked : Type 0 where
  pub net : NetPlan
  pub label : Label

-- the key and payload of a packet that was asked for
abbrev pub label_of : Option Asked → Label
label_of (Some a) = a.label
label_of None = record { key = 0; payload = None }

-- The ledger of the packets that were asked for, by their numbers: the ledger with their keys and payloads, where each mark
-- is of a packet that was asked for, each such packet has a mark, and its net is one of the nets and has its key.
pub record MeetsLedgerFor (s : State) (nets : List NetPlan) (asked : ℕ → Option Asked) : Type 0 where
  pub ledger : MeetsLedger s nets (λ i. label_of (asked i))
  pub of_its_net : (i : ℕ) (a : Asked) → asked i ≡ Some a → Contains nets a.net × IsKeyOf a.net.block a.label.key
  pub was_asked : (k : Mark) → Contains (marks_of s) k → (a : Asked) × (asked k.copy.packet ≡ Some a)
  pub each_asked : (i : ℕ) (a : Asked) → asked i ≡ Some a → (k : Mark) × Contains (marks_of s) k × (k.copy.packet ≡ i)
