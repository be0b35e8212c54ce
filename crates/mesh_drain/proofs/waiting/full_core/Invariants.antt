use Rattle.mesh_drain.proofs.Common.{Some, [], slice_get, ℕ, ◌<◌, ◌≡◌}
use Rattle.mesh_drain.proofs.waiting.full_core.Given as goal

-- nothing waits for the vertices before this one
abbrev pub invariant-loop-vertex : goal.invariant-loop-vertex
invariant-loop-vertex l = (v : ℕ) → v < l.vertex → slice_get l.mesh.cores v ≡ Some []
