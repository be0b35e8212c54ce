-- What a report says of a plan: its vertices and nets, by name (this project's own).
use Rattle.std.specs.Prelude.{ℕ, List, map}
use Rattle.std.specs.List.{zip}
use Rattle.spin_base.specs.declared.chips.Spot.{Spot}
use Rattle.spin_base.specs.declared.blocks.Block.{Block}
use Rattle.app_graph.specs.declared.graphs.Vertex.{Vertex}
use Rattle.app_graph.specs.declared.graphs.Net.{Net}
use Rattle.app_graph.specs.declared.graphs.Graph.{Graph}
use Rattle.machine_desc.specs.declared.nets.NetPlan.{NetPlan}

-- the names of vertices
abbrev pub vertex_names : List Vertex → List (List ℕ)
vertex_names vertices = map (λ (v : Vertex). v.name) vertices

-- each vertex with its core
abbrev pub placed_of : Graph → List Spot → List (List ℕ × Spot)
placed_of graph spots = zip (vertex_names graph.vertices) spots

-- each net with its keys
abbrev pub listed_keys : Graph → List NetPlan → List (List ℕ × Block)
listed_keys graph nets = zip (map (λ (net : Net). net.name) graph.nets) (map (λ (net : NetPlan). net.block) nets)
