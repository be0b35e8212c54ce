-- Serving an output of a hand: the copy to send, where it goes, and what is left.
use Rattle.std.specs.Prelude.{ℕ, ◌<◌, List, Option, Some, None, if◌then◌else◌, slice_get, slice_set}
use Rattle.spin_base.specs.declared.chips.Chip.{Chip}
use Rattle.spin_base.specs.declared.routes.Out.{Out}
use Rattle.spin_base.specs.declared.copies.McCopy.{McCopy}
use Rattle.mesh_core.specs.declared.queues.Queue.{Queue as PlacedQueue}
use Rattle.mesh_core.specs.declared.queues.Queue.TheVariants.{Input, Core, Nowhere}
use Rattle.mesh_core.specs.State.{State, Hand, Queue, input, core, nowhere}
use Rattle.mesh_core.specs.Step.{push_at, in_hand, serves, outs_without}

-- the copy that a live chip's hand still has to send by this output
abbrev pub copy_served : State → Chip → Out → Option (Option Hand) → Option McCopy
copy_served s c o (Some (Some h)) = if serves s c o (Some (Some h)) then Some h.copy else None
copy_served s c o (Some None) = None
copy_served s c o None = None

-- the queue that the code names
abbrev pub queue_named : PlacedQueue → Queue
queue_named (Input i) = input i
queue_named (Core v) = core v
queue_named Nowhere = nowhere

-- a queue that is there
abbrev pub IsPlace : ℕ → ℕ → PlacedQueue → Type 0
IsPlace inputs cores (Input i) = i < inputs
IsPlace inputs cores (Core v) = v < cores
IsPlace inputs cores Nowhere = Unit {0}

-- the input queues with a copy at the back of the queue behind an output
abbrev pub inputs_after : List (List McCopy) → Queue → McCopy → List (List McCopy)
inputs_after inputs (input i) k = push_at inputs i k (slice_get inputs i)
inputs_after inputs (core v) k = inputs
inputs_after inputs nowhere k = inputs

-- the cores' queues with a copy at the back of the queue behind an output
abbrev pub cores_after : List (List McCopy) → Queue → McCopy → List (List McCopy)
cores_after cores (input i) k = cores
cores_after cores (core v) k = push_at cores v k (slice_get cores v)
cores_after cores nowhere k = cores

-- the hands where the hand at a place has served an output
abbrev pub hands_after : List (Option Hand) → ℕ → Out → Option (Option Hand) → List (Option Hand)
hands_after hands i o (Some (Some h)) = slice_set hands i (in_hand h.copy h.port (outs_without o h.outs))
hands_after hands i o (Some None) = hands
hands_after hands i o None = hands
