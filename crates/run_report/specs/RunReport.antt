-- What the report of a run or a trace says (this project's own).
use Rattle.std.specs.Prelude.{◌≡◌, ℕ, ◌-◌, ◌^◌, List, [], ◌∷◌, ◌++◌, length, map, min, Option, Some, None, slice_get}
use Rattle.spin_base.specs.Gathered.{gathered}
use Rattle.std.specs.List.{flat_map, sum_by, range_with_len}
use Rattle.spin_base.specs.declared.chips.Chip.{Chip}
use Rattle.spin_base.specs.declared.chips.Spot.{Spot}
use Rattle.spin_base.specs.declared.chips.Port.{Port}
use Rattle.spin_base.specs.declared.blocks.ChipTable.{ChipTable}
use Rattle.spin_base.specs.declared.copies.McCopy.{McCopy}
use Rattle.spin_base.specs.declared.copies.Delivery.{Delivery}
use Rattle.spin_base.specs.declared.copies.DumpRec.{DumpRec}
use Rattle.spin_base.specs.Links.{port_number}
use Rattle.spin_base.specs.Outputs.{out_number}
use Rattle.machine_desc.specs.Live.{index_of, grid_chips}
use Rattle.app_graph.specs.declared.graphs.Graph.{Graph}
use Rattle.machine_desc.specs.declared.nets.NetPlan.{NetPlan}
use Rattle.mesh_core.specs.declared.places.Did.{Did}
use Rattle.mesh_core.specs.declared.places.Place.{Place}
use Rattle.mesh_core.specs.declared.places.Place.TheVariants.{InQueue, Hand as HandAt, CoreQueue}
use Rattle.mesh_core.specs.State.{State, Hand, queue_at}
use Rattle.mesh_core.specs.Ledger.{all_ports}
use Rattle.run_report.specs.declared.reports.Report.{Report}
use Rattle.run_report.specs.Listed.{placed_of, listed_keys}
pub use Rattle.run_report.specs.Named.{named_delivery}
use Rattle.run_report.specs.Orders.{IsSortedStably}

-- ---- deliveries and dump records

-- by packet, then by the position of the vertex
abbrev pub delivery_key : Delivery → List ℕ
delivery_key d = d.copy.packet ∷ d.vertex ∷ []

-- by packet, then by x, y and the bit number of the output
abbrev pub dump_key : DumpRec → List ℕ
dump_key r = r.copy.packet ∷ r.chip.x ∷ r.chip.y ∷ out_number r.out ∷ []

-- The deliveries in their order, each with the name of its vertex.
pub record IsDeliveredOf (placed : List (List ℕ × Spot)) (deliveries : List Delivery) (delivered : List (List ℕ × McCopy)) : Type 0 where
  pub sorted : List Delivery
  pub in_order : IsSortedStably delivery_key deliveries sorted
  pub named_each : delivered ≡ map (named_delivery placed) sorted

-- ---- waiting copies

-- the list at a place, and the empty one where there is none
abbrev pub copies_at : Option (List McCopy) → List McCopy
copies_at (Some copies) = copies
copies_at None = []

-- each copy of a list waits at one place: the number of its packet, and the place
abbrev pub waits_at : Place → List McCopy → List (ℕ × Place)
waits_at place copies = map (λ k. (k.packet, place)) copies

-- the copies in the input queue of a port
abbrev pub queue_waits : State → Chip → Port → List (ℕ × Place)
queue_waits s c port = waits_at (InQueue c port) (copies_at (slice_get s.inputs (queue_at s.setup.machine c port)))

-- what a router holds: a copy for each output by which it still has to leave
abbrev pub held_waits : Chip → Option (Option Hand) → List (ℕ × Place)
held_waits c (Some (Some h)) = map (λ o. (h.copy.packet, HandAt c o)) h.outs
held_waits c (Some None) = []
held_waits c None = []

abbrev pub hand_waits : State → Chip → List (ℕ × Place)
hand_waits s c = held_waits c (slice_get s.hands (index_of s.setup.machine c))

-- the copies in the input queues of a chip, and those in its router's hand
abbrev pub chip_waits : State → Chip → List (ℕ × Place)
chip_waits s c = flat_map (queue_waits s c) all_ports ++ hand_waits s c

-- the copies in the queue of a vertex's core
abbrev pub core_waits : State → ℕ → Spot → List (ℕ × Place)
core_waits s v spot = waits_at (CoreQueue spot.chip spot.core) (copies_at (slice_get s.cores v))

-- All waiting copies of a mesh: in the input queues and the hand of each chip, and in the queue of each vertex's core.
abbrev pub waits_of : State → List (ℕ × Place)
waits_of s = flat_map (chip_waits s) (grid_chips s.setup.machine) ++ gathered (core_waits s) 0 s.setup.spots

abbrev pub place_chip : Place → Chip
place_chip (InQueue c port) = c
place_chip (HandAt c o) = c
place_chip (CoreQueue c core) = c

-- input queues, then hands, then queues of cores
abbrev pub kind_number : Place → ℕ
kind_number (InQueue c port) = 0
kind_number (HandAt c o) = 1
kind_number (CoreQueue c core) = 2

-- the number of the port, the bit number of the output, or the number of the core
abbrev pub part_number : Place → ℕ
part_number (InQueue c port) = port_number port
part_number (HandAt c o) = out_number o
part_number (CoreQueue c core) = core

-- by packet, then by x, y, kind, and port, output or core
abbrev pub wait_key : ℕ × Place → List ℕ
wait_key w = w.0 ∷ (place_chip w.1).x ∷ (place_chip w.1).y ∷ kind_number w.1 ∷ part_number w.1 ∷ []

-- ---- unsent packets

-- the number of copies that a vertex has not sent
abbrev pub unsent_by : State → ℕ → ℕ
unsent_by s v = length (copies_at (slice_get s.unsent v))

-- the number of copies that no vertex has sent
abbrev pub unsent_total : State → ℕ
unsent_total s = sum_by (unsent_by s) (range_with_len 0 (length s.setup.spots))

-- ---- the report

-- The report of a graph's plan, of the tables that were loaded, of a mesh, and of the answers to the events that led there: the
-- spots of the vertices and the keys of the nets as the plan has them, the tables, the answers in their order, the deliveries by
-- packet and position of the vertex, the dump records by packet, chip and output, and the waiting copies by packet and place. The number of unsent copies stands still at 4,294,967,295.
pub record IsReportOf (graph : Graph) (spots : List Spot) (nets : List NetPlan) (tables : List ChipTable) (s : State) (did : List Did) (report : Report) : Type 0 where
  pub same_placed : report.placed ≡ placed_of graph spots
  pub same_keys : report.keys ≡ listed_keys graph nets
  pub same_tables : report.tables ≡ tables
  pub same_did : report.did ≡ did
  pub delivered : IsDeliveredOf (placed_of graph spots) s.delivered report.delivered
  pub dumped : IsSortedStably dump_key s.dumped report.dumped
  pub waiting : IsSortedStably wait_key (waits_of s) report.waiting
  pub unsent : report.unsent ≡ min (unsent_total s) (2 ^ 32 - 1)
