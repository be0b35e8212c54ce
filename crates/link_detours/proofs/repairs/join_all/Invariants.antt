use Rattle.link_detours.proofs.Common.{take}
use Rattle.link_detours.proofs.Keeping.{JoinedSoFar}
use Rattle.link_detours.proofs.repairs.join_all.Given as goal

-- the targets that were taken are joined
abbrev pub invariant-loop-target : goal.invariant-loop-target
invariant-loop-target l = JoinedSoFar l.broken.ground.machine.now l.broken.root l.fn.kept.items l.whole.items l.chips (take l.target-index l.broken.targets.now)
