use Rattle.app_loads.proofs.Common.{flat_map, source_vertex, take, ◌++◌, ◌≡◌}
use Rattle.app_loads.proofs.sends.with_sources.Given as goal

-- the vertices of the nets so far came to those that were known
abbrev pub invariant-loop-net : goal.invariant-loop-net
invariant-loop-net l = l.vertices ≡ l.initial.vertices ++ flat_map (source_vertex l.mesh.setup.spots) (take l.net-index l.nets)
