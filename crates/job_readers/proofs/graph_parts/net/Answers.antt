use Rattle.job_readers.proofs.Common.{List, Vertex, ap, arith, length, length-map, ℕ, ◌∙◌, ◌≡◌}
use Rattle.job_readers.specs.GraphPart.{vertex_names_of}
use Rattle.job_readers.proofs.graph_parts.net.Goals as goal

as_many : (vs : List Vertex) (names : List (List ℕ)) → names ≡ vertex_names_of vs → length names ≡ length vs
unfolding vertex_names_of
as_many vs names named = ap length named ∙ length-map vs (λ (v : Vertex). v.name)

pub returns-clause-valid : goal.returns-clause-valid
returns-clause-valid c = grind (arith, as_many c.args.among.now.vertices.now c.args.among.now.names.now c.args.among.now.named)
