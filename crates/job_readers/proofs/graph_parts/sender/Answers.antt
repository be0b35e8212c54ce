use Rattle.job_readers.proofs.Common.{List, Some, Vertex, arith, length, length-map, name_place_in, sym, ℕ, ◌<◌, ◌≡◌}
use Rattle.job_readers.specs.GraphPart.{vertex_names_of}
use Rattle.job_readers.proofs.PlaceSteps.{place_in-below}
use Rattle.job_readers.proofs.graph_parts.sender.Goals as goal

-- the place of a vertex's name is a place of the vertices
place_below : (vs : List Vertex) (names : List (List ℕ)) (s : List ℕ) (i : ℕ) → names ≡ vertex_names_of vs → Some i ≡ name_place_in names s → i < length vs
unfolding vertex_names_of
place_below vs names s i named at = grind (arith, place_in-below names s i (sym at), length-map)

pub get-requires : goal.get-requires
get-requires c = place_below c.args.among.now.vertices.now c.args.among.now.names.now c.args.said.now c.in_ok-i.i c.args.among.now.named c.in_ok-i.ensures

pub returns-in-None-clause-below : goal.returns-in-None-clause-below
returns-in-None-clause-below c = place_below c.args.among.now.vertices.now c.args.among.now.names.now c.args.said.now c.in_ok-i.i c.args.among.now.named c.in_ok-i.ensures
