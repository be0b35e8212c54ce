use Rattle.mesh_run.proofs.Common.{IsFloorSoFar}
use Rattle.mesh_run.proofs.floors.Floor.of.Given as goal

-- the chips so far
abbrev pub invariant-loop-index : goal.invariant-loop-index
invariant-loop-index l = IsFloorSoFar l.setup l.index l.floor
