-- Putting a dumped copy back.
use Rattle.std.specs.Prelude.{List, [], ◌∷◌, Option, Some, None, unwrap_or, if◌then◌else◌}
use Rattle.spin_base.specs.declared.copies.DumpRec.{DumpRec}
use Rattle.spin_base.specs.Hops.{onward}
use Rattle.mesh_core.specs.State.{State, behind}
use Rattle.mesh_core.specs.Step.{has_room_behind, push_behind}

-- The first dump record leaves the list, and its copy, with one hop more, goes to the back of the queue behind the record's
-- output, where that isn't full (this project's own).
abbrev pub put_back_of : State → List DumpRec → Option State
put_back_of s [] = None
put_back_of s (r ∷ rest) =
    if has_room_behind s (behind s.setup r.chip r.out)
    then Some (push_behind (record s { dumped = rest }) (behind s.setup r.chip r.out) (onward r.copy))
    else None

-- Where that isn't so nothing changes.
abbrev pub after_put_back : State → State
after_put_back s = unwrap_or (put_back_of s s.dumped) s
