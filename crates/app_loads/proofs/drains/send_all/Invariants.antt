use Rattle.app_loads.proofs.Common.{AreKnown, Comes, IfSome, IsClean, IsReachedDropless, List, McCopy, [], all_grouped, get_or, last_arrivals, length, slice_set, with_earlier, ◌≡◌}
use Rattle.app_loads.proofs.drains.send_all.Given as goal

-- the vertex has some packets unsent, and all else is as it was
abbrev pub invariant-packets : goal.invariant-packets
invariant-packets l = record {
  reached : IsReachedDropless (with_earlier (all_grouped l.fn.earlier) l.fn.mesh) (with_earlier (all_grouped l.earlier) l.mesh);
  clean : IsClean (all_grouped l.earlier) l.mesh;
  known : AreKnown l.mesh.setup l.vertex l.apps l.known;
  last : IfSome l.last (Comes l.mesh.setup l.vertex (last_arrivals l.earlier));
  unsent : (left : List McCopy) × (l.mesh.unsent ≡ slice_set l.fn.mesh.unsent l.vertex left);
}

abbrev pub decreases-packets : goal.decreases-packets
decreases-packets l = length (get_or l.mesh.unsent l.vertex [])
