use Rattle.mesh_drain.proofs.Common.{AreCollected, DropsAtNoVertex, IsAfter}
use Rattle.mesh_drain.proofs.settling.sweep.Given as goal

abbrev pub invariant-loop-index : goal.invariant-loop-index
invariant-loop-index l = record {
  after : IsAfter l.fn.mesh l.mesh;
  links : AreCollected l.fn.mesh → DropsAtNoVertex l.fn.mesh l.mesh;
  collected : AreCollected l.fn.mesh → AreCollected l.mesh;
}
