-- The table tells the vertices so far.
use Rattle.mesh_core.proofs.Common.{TellsVertices, take}
use Rattle.mesh_core.proofs.tables.vertex_table.Given as goal

abbrev pub invariant-loop-vertex : goal.invariant-loop-vertex
invariant-loop-vertex l = TellsVertices l.machine (take l.vertex l.spots) l.table.items
