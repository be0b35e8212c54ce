use Rattle.mesh_drain.proofs.Common.{IsReachedDropless, IsSameBesidesCores, [], get_or, ℕ, ◌<◌, ◌≡◌}
use Rattle.mesh_drain.proofs.settling.empty_cores.Given as goal

-- nothing waits for the vertices before this one
abbrev pub invariant-loop-vertex : goal.invariant-loop-vertex
invariant-loop-vertex l = record {
  reached : IsReachedDropless l.fn.mesh l.mesh;
  others : IsSameBesidesCores l.fn.mesh l.mesh;
  before : (i : ℕ) → i < l.vertex → get_or l.mesh.cores i [] ≡ [];
}
