-- That no name stands twice in a graph (this project's own).
use Rattle.std.specs.Prelude.{◌≢◌, AllPairs}
use Rattle.app_graph.specs.declared.graphs.Vertex.{Vertex}
use Rattle.app_graph.specs.declared.graphs.Net.{Net}
use Rattle.app_graph.specs.declared.graphs.Graph.{Graph}

-- No two vertices of a graph have one name, and no two of its nets have.
pub record HasNamesApart (graph : Graph) : Type 0 where
  pub vertices : AllPairs (λ (a : Vertex) b. a.name ≢ b.name) graph.vertices
  pub nets : AllPairs (λ (a : Net) b. a.name ≢ b.name) graph.nets
