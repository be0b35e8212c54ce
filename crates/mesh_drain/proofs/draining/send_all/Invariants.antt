use Rattle.mesh_drain.proofs.Common.{IsReachedDropless, List, McCopy, NothingWaits, [], get_or, length, slice_set, ◌≡◌}
use Rattle.mesh_drain.proofs.draining.send_all.Given as goal

abbrev pub invariant-packets : goal.invariant-packets
invariant-packets l = record {
  reached : IsReachedDropless l.fn.mesh l.mesh;
  quiet : NothingWaits l.mesh;
  none : l.waiting.items ≡ [];
  unsent : (left : List McCopy) × (l.mesh.unsent ≡ slice_set l.fn.mesh.unsent l.vertex left);
}

abbrev pub decreases-packets : goal.decreases-packets
decreases-packets l = length (get_or l.mesh.unsent l.vertex [])
