use Rattle.std.proofs.Common.{◌≡◌, ℕ, ◌-◌, ◌<◌, Some, length, slice_get}
use Rattle.tcam_find.specs.{declared.groups.Group.Group, Memory.NoneMatches, Memory.entries_in}
use Rattle.tcam_find.proofs.memory.Tcam.find.Given as goal

-- no entry of the groups before matches
abbrev pub invariant-loop-group : goal.invariant-loop-group
invariant-loop-group l =
    (i : ℕ) (g : Group) → i < l.group → slice_get l.self-inside.held.groups.items i ≡ Some g → NoneMatches l.key (entries_in g)

abbrev pub decreases-loop-group : goal.decreases-loop-group
decreases-loop-group l = length l.self-inside.held.groups.items - l.group
