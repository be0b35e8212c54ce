use Rattle.mesh_drain.proofs.Common.{AreCollected, DropsAtNoVertex, IsAfter, weight_in}
use Rattle.mesh_drain.proofs.settling.empty_chip.Given as goal

abbrev pub invariant-events : goal.invariant-events
invariant-events l = record {
  after : IsAfter l.fn.mesh l.mesh;
  links : AreCollected l.fn.mesh → DropsAtNoVertex l.fn.mesh l.mesh;
  collected : AreCollected l.fn.mesh → AreCollected l.mesh;
}

-- what the marks weigh
abbrev pub decreases-events : goal.decreases-events
decreases-events l = weight_in l.mesh
