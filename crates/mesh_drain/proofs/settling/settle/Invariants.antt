use Rattle.mesh_drain.proofs.Common.{AreCollected, DropsAtNoVertex, IsMoved, NothingWaits, weight_in}
use Rattle.mesh_drain.proofs.settling.settle.Given as goal

-- where nothing waited, nothing waits
abbrev pub invariant-sweeps : goal.invariant-sweeps
invariant-sweeps l = record {
  moved : IsMoved l.fn.mesh l.mesh;
  links : DropsAtNoVertex l.fn.mesh l.mesh;
  collected : AreCollected l.mesh;
  still : NothingWaits l.fn.mesh → NothingWaits l.mesh;
}

-- what the marks weigh
abbrev pub decreases-sweeps : goal.decreases-sweeps
decreases-sweeps l = weight_in l.mesh
