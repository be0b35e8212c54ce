-- The copies that wait behind an output (this project's own).
use Rattle.std.specs.Prelude.{List, Option, None, slice_get}
use Rattle.spin_base.specs.declared.copies.McCopy.{McCopy}
use Rattle.mesh_core.specs.State.{State, Queue, input, core, nowhere}

-- the queue of a name, if there is one
abbrev pub queue_of : State → Queue → Option (List McCopy)
queue_of s (input i) = slice_get s.inputs i
queue_of s (core v) = slice_get s.cores v
queue_of s nowhere = None
