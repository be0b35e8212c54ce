-- The core step: what one event does to the lists of a mesh.
use Rattle.std.specs.Prelude.{ℕ, ◌==◌, Bool, false, not, nat_lt, ◌&&◌, if◌then◌else◌, List, [], ◌∷◌, ◌++◌, length, Option, Some, None, is_some, unwrap_or, slice_get, slice_set}
use Rattle.std.specs.List.{list_any}
use Rattle.spin_base.specs.declared.chips.Chip.{Chip}
use Rattle.spin_base.specs.declared.chips.Spot.{Spot}
use Rattle.spin_base.specs.declared.chips.Port.{Port}
use Rattle.spin_base.specs.declared.chips.Port.TheVariants.{Local}
use Rattle.spin_base.specs.declared.routes.Out.{Out}
use Rattle.spin_base.specs.declared.copies.McCopy.{McCopy}
use Rattle.spin_base.specs.declared.copies.Event.{Event}
use Rattle.spin_base.specs.declared.copies.Event.TheVariants.{Inject, Take, Send, Dump, Collect}
use Rattle.spin_base.specs.Equality.{out_eq}
use Rattle.spin_base.specs.Hops.{last_hop, onward}
use Rattle.spin_base.specs.Lookup.{lookup}
use Rattle.spin_base.specs.Outputs.{outs_of}
use Rattle.machine_desc.specs.Live.{index_of, is_live_chip}
use Rattle.machine_desc.specs.RightTables.{table_at}
use Rattle.mesh_core.specs.declared.places.Did.{Did}
use Rattle.mesh_core.specs.declared.places.Did.TheVariants.{Moved, Idle}
use Rattle.mesh_core.specs.State.{Setup, State, Hand, Queue, input, core, nowhere, behind, queue_at}

-- The outputs that a router gives a copy: those that lookup gives its key at its port (SpiNNaker datasheet), and none
-- where it has the greatest hop number (this project's own).
abbrev pub outputs : Setup → Chip → Port → McCopy → List Out
outputs u c port k = if k.hop == last_hop then [] else outs_of (lookup (table_at u.machine u.tables c) k.key port)

-- what a router holds once it has these outputs to serve: nothing where there is none
abbrev pub in_hand : McCopy → Port → List Out → Option Hand
in_hand k port [] = None
in_hand k port (o ∷ os) = Some (record { copy = k; port = port; outs = o ∷ os })

-- the outputs but the first that is this one
abbrev pub outs_without : Out → List Out → List Out
outs_without o [] = []
outs_without o (p ∷ os) = if out_eq o p then os else p ∷ outs_without o os

-- whether a list of queues has one at this place that holds less than the capacity
abbrev pub has_room : ℕ → Option (List McCopy) → Bool
has_room capacity (Some q) = nat_lt (length q) capacity
has_room capacity None = false

-- whether the queue behind an output has room. There is none behind an output that leads nowhere.
abbrev pub has_room_behind : State → Queue → Bool
has_room_behind s (input i) = has_room s.setup.capacity (slice_get s.inputs i)
has_room_behind s (core v) = has_room s.setup.capacity (slice_get s.cores v)
has_room_behind s nowhere = false

-- the lists with one more item at the back of the list at a place
abbrev pub push_at : List (List McCopy) → ℕ → McCopy → Option (List McCopy) → List (List McCopy)
push_at lists i k (Some q) = slice_set lists i (q ++ k ∷ [])
push_at lists i k None = lists

-- the mesh with a copy at the back of the queue behind an output
abbrev pub push_behind : State → Queue → McCopy → State
push_behind s (input i) k = record s { inputs = push_at s.inputs i k (slice_get s.inputs i) }
push_behind s (core v) k = record s { cores = push_at s.cores v k (slice_get s.cores v) }
push_behind s nowhere k = s

-- Inject: a vertex with an unsent copy, on a chip whose injection queue isn't full, sends its first unsent copy to the
-- back of that queue.
abbrev pub inject_of : State → ℕ → Option Spot → Option (List McCopy) → Option State
inject_of s v (Some spot) (Some (k ∷ rest)) =
    let queue = input (queue_at s.setup.machine spot.chip Local) in
    if has_room_behind s queue then Some (push_behind (record s { unsent = slice_set s.unsent v rest }) queue k) else None
inject_of s v spot unsent = None

-- Take: a live chip without a hand, with a copy at the port, takes the front copy into its hand, with the outputs that
-- lookup gives. A copy without outputs is gone.
abbrev pub take_of : State → Chip → Port → Option (Option Hand) → Option (List McCopy) → Option State
take_of s c port (Some None) (Some (k ∷ rest)) =
    if is_live_chip s.setup.machine c
    then Some (record s {
      inputs = slice_set s.inputs (queue_at s.setup.machine c port) rest;
      hands = slice_set s.hands (index_of s.setup.machine c) (in_hand k port (outputs s.setup c port k));
    })
    else None
take_of s c port hand queue = None

-- whether a live chip's hand still has this output to serve
abbrev pub serves : State → Chip → Out → Option (Option Hand) → Bool
serves s c o (Some (Some h)) = is_live_chip s.setup.machine c && list_any (out_eq o) h.outs
serves s c o (Some None) = false
serves s c o None = false

-- the mesh where the hand has served an output
abbrev pub after_serving : State → Chip → Out → Hand → State
after_serving s c o h = record s { hands = slice_set s.hands (index_of s.setup.machine c) (in_hand h.copy h.port (outs_without o h.outs)) }

-- Send: a chip whose hand has the output, and behind it a queue that isn't full, sends the copy with one hop more to
-- the back of that queue, and the output leaves the hand.
abbrev pub send_of : State → Chip → Out → Option (Option Hand) → Option State
send_of s c o (Some (Some h)) =
    if serves s c o (Some (Some h)) && has_room_behind s (behind s.setup c o)
    then Some (push_behind (after_serving s c o h) (behind s.setup c o) (onward h.copy))
    else None
send_of s c o (Some None) = None
send_of s c o None = None

-- Dump: a chip whose hand has the output, and behind it a full queue or none, records the copy and drops it there, and
-- the output leaves the hand.
abbrev pub dump_of : State → Chip → Out → Option (Option Hand) → Option State
dump_of s c o (Some (Some h)) =
    if serves s c o (Some (Some h)) && not (has_room_behind s (behind s.setup c o))
    then (let next = after_serving s c o h in Some (record next { dumped = next.dumped ++ record { chip = c; out = o; copy = h.copy } ∷ [] }))
    else None
dump_of s c o (Some None) = None
dump_of s c o None = None

-- Collect: a vertex with a copy in its core's queue takes the front copy, which is delivered.
abbrev pub collect_of : State → ℕ → Option (List McCopy) → Option State
collect_of s v (Some (k ∷ rest)) =
    Some (record s { cores = slice_set s.cores v rest; delivered = s.delivered ++ record { vertex = v; copy = k } ∷ [] })
collect_of s v queue = None

-- The lists after an event, where it is enabled. An event of a vertex or chip that isn't there is not.
abbrev pub step_of : State → Event → Option State
step_of s (Inject v) = inject_of s v (slice_get s.setup.spots v) (slice_get s.unsent v)
step_of s (Take c port) = take_of s c port (slice_get s.hands (index_of s.setup.machine c)) (slice_get s.inputs (queue_at s.setup.machine c port))
step_of s (Send c o) = send_of s c o (slice_get s.hands (index_of s.setup.machine c))
step_of s (Dump c o) = dump_of s c o (slice_get s.hands (index_of s.setup.machine c))
step_of s (Collect v) = collect_of s v (slice_get s.cores v)

-- An event that isn't enabled changes nothing.
abbrev pub after_event : State → Event → State
after_event s e = unwrap_or (step_of s e) s

-- whether an event is enabled
abbrev pub answer : State → Event → Did
answer s e = if is_some (step_of s e) then Moved else Idle

-- the state after a list of events, one by one
abbrev pub after_events : State → List Event → State
after_events s [] = s
after_events s (e ∷ es) = after_events (after_event s e) es

-- the answers to a list of events, one by one
abbrev pub answers_of : State → List Event → List Did
answers_of s [] = []
answers_of s (e ∷ es) = answer s e ∷ answers_of (after_event s e) es
