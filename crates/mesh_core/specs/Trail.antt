-- Where a copy can be on its way to one target (this project's own).
use Rattle.std.specs.Prelude.{ℕ, ◌==◌, Bool, false, ◌&&◌, length, List, Option, Some, None, slice_get}
use Rattle.spin_base.specs.declared.chips.Chip.{Chip}
use Rattle.spin_base.specs.declared.chips.Port.{Port}
use Rattle.spin_base.specs.declared.routes.Out.{Out}
use Rattle.spin_base.specs.declared.copies.McCopy.{McCopy}
use Rattle.spin_base.specs.Equality.{chip_eq, port_eq, out_eq}
use Rattle.machine_desc.specs.Branch.{Exit, arrival_at}

-- Where a copy is: with its source vertex, in an input queue, in a hand for one output, in the queue of a vertex's
-- core, delivered to a vertex, or dumped at an output.
pub data Station : Type 0 where
  unsent : ℕ → Station
  in_queue : Chip → Port → Station
  in_hand : Chip → Out → Station
  at_core : ℕ → Station
  delivered : ℕ → Station
  dumped : Chip → Out → Station

-- A mark: a copy, and where it is.
pub record Mark : Type 0 where
  pub copy : McCopy
  pub station : Station

-- a copy at this station is unsent, or waits
abbrev pub IsUnderWayAt : Station → Type 0
IsUnderWayAt (unsent v) = Unit {0}
IsUnderWayAt (in_queue c port) = Unit {0}
IsUnderWayAt (in_hand c o) = Unit {0}
IsUnderWayAt (at_core v) = Unit {0}
IsUnderWayAt (delivered v) = ⊥
IsUnderWayAt (dumped c o) = ⊥

-- whether the place of a branch is this chip, where packets come in at this port
abbrev pub comes_in_there : List Exit → ℕ → Chip → Port → Option Exit → Bool
comes_in_there branch i c port (Some exit) = chip_eq exit.chip c && port_eq (arrival_at branch i) port
comes_in_there branch i c port None = false

-- whether the place of a branch is this output of this chip
abbrev pub leaves_there : Chip → Out → Option Exit → Bool
leaves_there c o (Some exit) = chip_eq exit.chip c && out_eq exit.out o
leaves_there c o None = false

-- Whether a station is on the trail of a target, for a copy that has passed so many routers. The trail of a target
-- begins unsent at the net's source vertex; it goes on, at each place of the target's branch, through the input queue
-- and the hand, where the copy may be dumped; and it ends in the queue of the target's core, and delivered there. The
-- hop number is 0 unsent, the place of the branch in its queues, hands and dump records, and the branch's length at
-- the target's core.
abbrev pub on_trail : ℕ → ℕ → List Exit → ℕ → Station → Bool
on_trail source target branch hop (unsent v) = (v == source) && (hop == 0)
on_trail source target branch hop (in_queue c port) = comes_in_there branch hop c port (slice_get branch hop)
on_trail source target branch hop (in_hand c o) = leaves_there c o (slice_get branch hop)
on_trail source target branch hop (at_core v) = (v == target) && (hop == length branch)
on_trail source target branch hop (delivered v) = (v == target) && (hop == length branch)
on_trail source target branch hop (dumped c o) = leaves_there c o (slice_get branch hop)

-- whether a mark is on the trail of a target
abbrev pub is_on_trail : ℕ → ℕ → List Exit → Mark → Bool
is_on_trail source target branch k = on_trail source target branch k.copy.hop k.station

-- whether a mark is of this packet and on the trail of a target
abbrev pub is_packet_on_trail : ℕ → ℕ → ℕ → List Exit → Mark → Bool
is_packet_on_trail packet source target branch k = (k.copy.packet == packet) && is_on_trail source target branch k
