use Rattle.link_detours.proofs.Common.{Edge, IsStepFrom, dir_number, ◌≤◌}
use Rattle.link_detours.proofs.detours.last_link.Given as goal

-- no step from the set has one of the numbers so far
abbrev pub invariant-loop-dir : goal.invariant-loop-dir
invariant-loop-dir l = (e : Edge) → IsStepFrom l.here.front.ground.machine.now l.here.front.set.now l.here.chip e → l.dir-index ≤ dir_number e.dir
