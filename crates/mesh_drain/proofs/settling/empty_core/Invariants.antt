use Rattle.mesh_drain.proofs.Common.{IsReachedDropless, IsSameBesidesCores, List, McCopy, set, weight_in, ◌≡◌}
use Rattle.mesh_drain.proofs.settling.empty_core.Given as goal

-- the vertex's queue alone has changed
abbrev pub invariant-copies : goal.invariant-copies
invariant-copies l = record {
  reached : IsReachedDropless l.fn.mesh l.mesh;
  others : IsSameBesidesCores l.fn.mesh l.mesh;
  there : (q : List McCopy) × (l.mesh.cores ≡ set l.fn.mesh.cores l.vertex q);
}

-- what the marks weigh
abbrev pub decreases-copies : goal.decreases-copies
decreases-copies l = weight_in l.mesh
