use Rattle.mesh_run.proofs.Common.{AreHomesTo, HaveSenders, grid_size}
use Rattle.mesh_run.proofs.homes.homes_of.Given as goal

-- the ports' queues so far
abbrev pub invariant-loop-index : goal.invariant-loop-index
invariant-loop-index l = AreHomesTo l.table l.index 0 l.homes.items

-- and those of vertices
abbrev pub invariant-loop-vertex : goal.invariant-loop-vertex
invariant-loop-vertex l = AreHomesTo l.table (grid_size l.footing.setup.now) l.vertex l.homes.items

-- the senders of the chips so far
abbrev pub invariant-loop-at : goal.invariant-loop-at
invariant-loop-at l = HaveSenders l.footing.setup.now l.table l.at 0 l.homes.items
