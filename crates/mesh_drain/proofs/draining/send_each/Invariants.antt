use Rattle.mesh_drain.proofs.Common.{IsReachedDropless, NothingWaits, [], get_or, ℕ, ◌<◌, ◌≡◌}
use Rattle.mesh_drain.proofs.draining.send_each.Given as goal

-- the vertices before this one have sent all
abbrev pub invariant-loop-vertex : goal.invariant-loop-vertex
invariant-loop-vertex l = record {
  reached : IsReachedDropless l.fn.mesh l.mesh;
  quiet : NothingWaits l.mesh;
  none : l.waiting.items ≡ [];
  sent : (i : ℕ) → i < l.vertex → get_or l.mesh.unsent i [] ≡ [];
}
