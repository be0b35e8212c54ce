use Rattle.job_readers.proofs.Common.{Vertex, map, take, ◌≡◌}
use Rattle.job_readers.proofs.graph_parts.names_of_vertices.Given as goal

abbrev pub invariant-loop-vertex : goal.invariant-loop-vertex
invariant-loop-vertex l = l.names ≡ map (λ (v : Vertex). v.name) (take l.vertex-index l.vertices)
