use Rattle.job_readers.specs.GraphPart.{vertices_faults, vertices_value}
use Rattle.job_readers.proofs.graph_parts.vertices.Goals as goal

pub returns-clause-read : goal.returns-clause-read
unfolding vertices_faults vertices_value
returns-clause-read c = rw (c.in_ok-items.ensures.read.0, ← c.in_ok-items.ensures.read.1) c.each_vertex.ensures.read
