-- Where copies wait that can be moved (this project's own).
use Rattle.std.specs.Prelude.{◌≡◌, List, ◌∷◌, [], Option, Some, None, slice_get}
use Rattle.spin_base.specs.declared.copies.McCopy.{McCopy}
use Rattle.spin_base.specs.declared.chips.Chip.{Chip}
use Rattle.spin_base.specs.declared.chips.Port.{Port}
use Rattle.spin_base.specs.declared.routes.Out.{Out}
use Rattle.machine_desc.specs.Live.{index_of, IsInside}
use Rattle.mesh_core.specs.State.{State, Hand, queue_at}
use Rattle.mesh_drain.specs.declared.waiting.Waits.{Waits}
use Rattle.mesh_drain.specs.declared.waiting.Waits.TheVariants.{InCore, InHand, AtPort}

-- a queue has a copy
abbrev pub HasCopies : Option (List McCopy) → Type 0
HasCopies (Some (k ∷ rest)) = Unit {0}
HasCopies (Some []) = ⊥
HasCopies None = ⊥

-- the copies at a port of a chip
abbrev pub port_copies : State → Chip → Port → Option (List McCopy)
port_copies s c port = slice_get s.inputs (queue_at s.setup.machine c port)

-- a chip's router holds no copy in hand
abbrev pub HasNoHandOn : State → Chip → Type 0
HasNoHandOn s c = slice_get s.hands (index_of s.setup.machine c) ≡ Some None

-- a router's hand has the output as the next by which its copy leaves
abbrev pub IsNextOut : Out → Option (Option Hand) → Type 0
IsNextOut o (Some (Some h)) = (rest : List Out) × (h.outs ≡ o ∷ rest)
IsNextOut o (Some None) = ⊥
IsNextOut o None = ⊥

-- a copy waits there
abbrev pub IsWaiting : State → Waits → Type 0
IsWaiting s (InCore v) = HasCopies (slice_get s.cores v)
IsWaiting s (InHand c o) = IsInside s.setup.machine c × IsNextOut o (slice_get s.hands (index_of s.setup.machine c))
IsWaiting s (AtPort c port) =
    IsInside s.setup.machine c × HasCopies (port_copies s c port) × HasNoHandOn s c
