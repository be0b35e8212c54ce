-- What a round on threads tells: what routers and banks did, as a list, and that it leads from one mesh to another. The definitions are
-- this project's own.
use Rattle.std.specs.Prelude.{◌≡◌, ℕ, ◌+◌, ◌*◌, ◌<◌, ◌≤◌, List, [], ◌++◌, map, length, Option, Some, None, All, slice_get, slice_index_or}
use Rattle.std.specs.List.{flat_map}
use Rattle.spin_base.specs.declared.chips.Chip.{Chip}
use Rattle.spin_base.specs.declared.chips.Spot.{Spot}
use Rattle.spin_base.specs.declared.chips.Port.{Port}
use Rattle.spin_base.specs.declared.routes.Out.{Out}
use Rattle.spin_base.specs.declared.copies.McCopy.{McCopy}
use Rattle.spin_base.specs.Outputs.{IsOutput}
use Rattle.machine_desc.specs.Live.{chip_of, index_of, IsLiveChip}
use Rattle.mesh_core.specs.State.{Setup, State, Queue, input, core, nowhere, behind}
use Rattle.mesh_core.specs.Step.{outputs}
use Rattle.chip_node.specs.declared.ends.Served.TheVariants.{Dumped}
use Rattle.chip_node.specs.Items.{Item, took, served, sent, got, deliveries, entered, gettings, left, lost_at, records, sendings, sent_by, services, takings}
use Rattle.chip_node.specs.Going.{IsFullMoment}

-- ---- places

-- how many queues of ports there are
abbrev pub port_count : Setup → ℕ
port_count u = 7 * (u.machine.width * u.machine.height)

-- the place of the queue of a vertex, behind all queues of ports
abbrev pub vertex_place : Setup → ℕ → ℕ
vertex_place u v = port_count u + v

-- the place of a queue among all queues, where there is one
abbrev pub queue_place_of : Setup → Queue → Option ℕ
queue_place_of u (input i) = Some i
queue_place_of u (core v) = Some (vertex_place u v)
queue_place_of u nowhere = None

-- the place of the queue behind an output, where there is one
abbrev pub place_behind : Setup → Chip → Out → Option ℕ
place_behind u c o = queue_place_of u (behind u c o)

-- what the queue at a place holds
abbrev pub held_at : State → ℕ → List McCopy
held_at s q = slice_index_or (s.inputs ++ s.cores) q []

-- ---- who did what

-- the chip of an index is live
pub record IsLiveIndex (u : Setup) (i : ℕ) : Type 0 where
  pub live : IsLiveChip u.machine (chip_of u.machine i)
  pub is : index_of u.machine (chip_of u.machine i) ≡ i

-- a vertex on the chip of an index
pub record IsVertexOn (u : Setup) (i v : ℕ) : Type 0 where
  pub spot : Spot
  pub stands : slice_get u.spots v ≡ Some spot
  pub here : spot.chip ≡ chip_of u.machine i

-- A live chip's router took a copy; it served an output, with the queue behind it, and where there is none the copy was dumped; or the
-- bank of a live chip's vertices sent or took one.
abbrev pub IsDoneOn : Setup → Item → Type 0
IsDoneOn u (took i port k) = IsLiveIndex u i
IsDoneOn u (served i c place s) =
    IsLiveIndex u i × (c ≡ chip_of u.machine i) × (place ≡ place_behind u c s.out) × IsOutput s.out × (place ≡ None → s.fate ≡ Dumped)
IsDoneOn u (sent i v k) = IsLiveIndex u i × IsVertexOn u i v
IsDoneOn u (got i v place k) = IsLiveIndex u i × IsVertexOn u i v × (place ≡ vertex_place u v)

-- each output that lookup gives a copy that was taken, with the copy, in order
abbrev pub owed_on : Setup → Chip → List (Port × McCopy) → List (Out × McCopy)
owed_on u c taken = flat_map (λ t. map (λ o. (o, t.1)) (outputs u c t.0 t.1)) taken

-- The router of each chip served what it took, once at each output that lookup gives it and in order; and no chip's router or bank
-- did more than it has turns.
pub record AreTurns (u : Setup) (turns : ℕ) (items : List Item) : Type 0 where
  pub each : All (IsDoneOn u) items
  pub each_once : (i : ℕ) → map {B = Out × McCopy} (λ s. (s.out, s.copy)) (services i items) ≡ owed_on u (chip_of u.machine i) (takings i items)
  pub takes : (i : ℕ) → length (takings i items) ≤ turns
  pub sends : (i : ℕ) → length (sendings i items) ≤ turns
  pub gets : (i : ℕ) → length (gettings i items) ≤ turns

-- ---- what it makes of a mesh

-- A queue gives its copies in the order in which it got them, and holds at most its capacity. Behind each copy that was dumped since it
-- was full stand as many moments as the patience at which it was full.
pub record QueueGoes (cap patience : ℕ) (items : List Item) (q : ℕ) (before after : List McCopy) : Type 0 where
  pub in_order : before ++ entered q items ≡ left q items ++ after
  pub within : length after ≤ cap
  pub fulls : List (ℕ × ℕ)
  pub full : All (IsFullMoment cap (length before) (entered q items) (left q items)) fulls
  pub patient : patience * length (lost_at q items) ≤ length fulls

-- A round on threads leads from one mesh to another, by what routers and banks did in it.
pub record IsPlayedBy (patience turns : ℕ) (items : List Item) (m n : State) : Type 0 where
  pub setup : n.setup ≡ m.setup
  pub hands : n.hands ≡ m.hands
  pub inputs_long : length n.inputs ≡ length m.inputs
  pub cores_long : length n.cores ≡ length m.cores
  pub unsent_long : length n.unsent ≡ length m.unsent
  pub turns_are : AreTurns m.setup turns items
  pub queues : (q : ℕ) → q < port_count m.setup + length m.setup.spots → QueueGoes m.setup.capacity patience items q (held_at m q) (held_at n q)
  pub unsent : (v : ℕ) → slice_index_or m.unsent v [] ≡ sent_by v items ++ slice_index_or n.unsent v []
  pub delivered : n.delivered ≡ m.delivered ++ deliveries items
  pub dumped : n.dumped ≡ m.dumped ++ records items
