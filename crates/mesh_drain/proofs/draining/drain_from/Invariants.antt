use Rattle.mesh_drain.proofs.Common.{IsReachedDropless, NothingWaits, [], drop, ◌≡◌}
use Rattle.mesh_drain.proofs.Senders.{Unsent}
use Rattle.mesh_drain.proofs.draining.drain_from.Given as goal

-- only the vertices from here on have packets unsent
abbrev pub invariant-loop-vertex : goal.invariant-loop-vertex
invariant-loop-vertex l = record {
  reached : IsReachedDropless l.fn.mesh l.mesh;
  quiet : NothingWaits l.mesh;
  none : l.waiting.items ≡ [];
  unsent : Unsent l.mesh.unsent (drop l.vertex-index l.vertices);
}
