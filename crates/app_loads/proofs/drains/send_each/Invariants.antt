use Rattle.app_loads.proofs.Common.{IsClean, IsReachedDropless, Unsent, all_grouped, drop, with_earlier}
use Rattle.app_loads.proofs.drains.send_each.Given as goal

-- only the vertices from here on have packets unsent
abbrev pub invariant-loop-vertex : goal.invariant-loop-vertex
invariant-loop-vertex l = record {
  reached : IsReachedDropless (with_earlier (all_grouped l.fn.earlier) l.fn.mesh) (with_earlier (all_grouped l.earlier) l.mesh);
  clean : IsClean (all_grouped l.earlier) l.mesh;
  unsent : Unsent l.mesh.unsent (drop l.vertex-index l.vertices);
}
