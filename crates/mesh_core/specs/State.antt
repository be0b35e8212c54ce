-- What a mesh is to a contract: the machine and the lists of what is where.
use Rattle.std.specs.Prelude.{◌≡◌, ◌≢◌, ℕ, ◌+◌, ◌*◌, ◌^◌, ◌<◌, ◌≤◌, Bool, true, false, List, [], length, All, AllPairs, Option, Some, None, IfSome, slice_get, position}
use Rattle.spin_base.specs.declared.chips.Chip.{Chip}
use Rattle.spin_base.specs.declared.chips.Spot.{Spot}
use Rattle.spin_base.specs.declared.chips.Dir.{Dir}
use Rattle.spin_base.specs.declared.chips.Port.{Port}
use Rattle.spin_base.specs.declared.chips.Port.TheVariants.{Link as ByLink, Local}
use Rattle.spin_base.specs.declared.routes.Out.{Out}
use Rattle.spin_base.specs.declared.routes.Out.TheVariants.{Link, Core}
use Rattle.spin_base.specs.declared.blocks.Entry.{Entry}
use Rattle.spin_base.specs.declared.copies.McCopy.{McCopy}
use Rattle.spin_base.specs.declared.copies.Delivery.{Delivery}
use Rattle.spin_base.specs.declared.copies.DumpRec.{DumpRec}
use Rattle.spin_base.specs.Links.{opposite_of, port_number}
use Rattle.machine_desc.specs.Description.{Description, HasSize}
use Rattle.machine_desc.specs.Live.{far_of, index_of, is_live_chip, is_live_link, IsInside, IsSite}
use Rattle.machine_desc.specs.Outputs.{leads_to_spot}

-- A copy in a router's hand: where it came in, and the outputs by which it still has to leave.
pub record Hand : Type 0 where
  pub copy : McCopy
  pub port : Port
  pub outs : List Out

-- What a mesh never changes: its machine, the spots of its vertices, per chip index the router's table, and how many copies
-- a queue holds at most (SpiNNaker datasheet for routers and tables).
pub record Setup : Type 0 where
  pub machine : Description
  pub spots : List Spot
  pub tables : List (List Entry)
  pub capacity : ℕ

-- A mesh is what never changes, and lists: per vertex the copies it has not sent yet; seven input queues per chip, that of
-- chip index i and port number k at place 7 * i + k; per chip what its router holds in hand; per vertex the queue of its
-- core or device; and all deliveries and all dump records so far (SpiNNaker datasheet for routers and ports; the lists are
-- this project's own).
pub record State : Type 0 where
  pub setup : Setup
  pub unsent : List (List McCopy)
  pub inputs : List (List McCopy)
  pub hands : List (Option Hand)
  pub cores : List (List McCopy)
  pub delivered : List Delivery
  pub dumped : List DumpRec

-- the place of an input queue in the list of them
abbrev pub queue_at : Description → Chip → Port → ℕ
queue_at m c port = 7 * index_of m c + port_number port

-- the vertex on the spot to which an output leads, if there is one
abbrev pub vertex_behind : List Spot → Chip → Out → Option ℕ
vertex_behind spots c o = position (leads_to_spot c o) spots

-- The queue behind an output.
pub data Queue : Type 0 where
  -- the input queue of this place
  input : ℕ → Queue
  -- the queue of this vertex's core or device
  core : ℕ → Queue
  -- none: a link that is neither live nor a device's, or a core without a vertex
  nowhere : Queue

abbrev pub core_queue_of : Option ℕ → Queue
core_queue_of (Some v) = core v
core_queue_of None = nowhere

-- the queue behind a link: at the far end where it is live, else that of the vertex whose device hangs on it
abbrev pub behind_link : Setup → Chip → Dir → Bool → Option Chip → Queue
behind_link u c d true (Some e) = input (queue_at u.machine e (ByLink (opposite_of d)))
behind_link u c d true None = nowhere
behind_link u c d false e = core_queue_of (vertex_behind u.spots c (Link d))

-- A copy that a live link carries comes to the chip at its far end, into the queue of the port of the opposite link
-- (SpiNNaker datasheet). One that goes to a core, or by a link that is not live to a device, comes into the queue of the
-- vertex there.
abbrev pub behind : Setup → Chip → Out → Queue
behind u c (Link d) = behind_link u c d (is_live_link u.machine c d) (far_of u.machine c d)
behind u c (Core p) = core_queue_of (vertex_behind u.spots c (Core p))

-- What a queue may hold: no more copies than its capacity, each with a hop number of at most the last one, 4,294,967,295.
pub record FitsQueue (capacity : ℕ) (q : List McCopy) : Type 0 where
  pub within : length q ≤ capacity
  pub hops : All (λ k. k.hop < 2 ^ 32) q

-- What a router may hold in hand: a copy with an output left, and with a hop number below the last one.
pub record FitsHand (h : Hand) : Type 0 where
  pub outputs : h.outs ≢ []
  pub hop : h.copy.hop + 1 < 2 ^ 32

-- Every mesh has lists of the lengths that its machine and vertices ask for, vertices on different sites, and
-- room for at least one copy in a queue. No queue holds more than its capacity, and each waiting copy's hop number is at most the
-- last one. What isn't sent yet has passed no router. No hand is without outputs, or holds a copy of the last hop number. Nothing
-- waits at a port whose link isn't live, or on a chip that isn't live, nor in its router's hand.
pub record IsMesh (s : State) : Type 0 where
  pub size : HasSize s.setup.machine
  pub different : AllPairs (λ a b. a ≢ b) s.setup.spots
  pub sites : All (IsSite s.setup.machine) s.setup.spots
  pub room : 1 ≤ s.setup.capacity
  pub unsent_lists : length s.unsent ≡ length s.setup.spots
  pub input_lists : length s.inputs ≡ 7 * (s.setup.machine.width * s.setup.machine.height)
  pub hand_list : length s.hands ≡ s.setup.machine.width * s.setup.machine.height
  pub core_lists : length s.cores ≡ length s.setup.spots
  pub table_list : length s.setup.tables ≡ s.setup.machine.width * s.setup.machine.height
  pub inputs_within : All (FitsQueue s.setup.capacity) s.inputs
  pub cores_within : All (FitsQueue s.setup.capacity) s.cores
  pub unsent_at_start : All (λ q. All (λ k. k.hop ≡ 0) q) s.unsent
  pub hands_fit : All (λ h. IfSome h FitsHand) s.hands
  pub none_at_dead_ports : (c : Chip) (d : Dir) → is_live_link s.setup.machine c d ≡ false → IsInside s.setup.machine c → slice_get s.inputs (queue_at s.setup.machine c (ByLink d)) ≡ Some []
  pub none_on_dead_chips : (c : Chip) → is_live_chip s.setup.machine c ≡ false → IsInside s.setup.machine c → slice_get s.inputs (queue_at s.setup.machine c Local) ≡ Some []
  pub no_hand_on_dead_chips : (c : Chip) → is_live_chip s.setup.machine c ≡ false → IsInside s.setup.machine c → slice_get s.hands (index_of s.setup.machine c) ≡ Some None
