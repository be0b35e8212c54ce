-- Which refusal is told where a graph has no nets with trees, and by which name (this project's own). Want of memory is told where
-- memory ran out, also for the name, and nowhere else.
use Rattle.std.specs.Prelude.{ℕ, List, [], Result, Ok, Err, slice_get}
use Rattle.std.specs.Option.{option_map_or}
use Rattle.spin_base.specs.declared.wants.Memory.{Memory}
use Rattle.app_graph.specs.declared.graphs.Graph.{Graph}
use Rattle.app_graph.specs.declared.graphs.Vertex.{Vertex}
use Rattle.place_fit.specs.declared.placing.PlaceErr.{PlaceErr}
use Rattle.place_fit.specs.declared.placing.PlaceErr.TheVariants as places
use Rattle.key_alloc.specs.declared.alloc.KeyErr.{KeyErr}
use Rattle.key_alloc.specs.declared.alloc.KeyErr.TheVariants as keys
use Rattle.run_report.specs.declared.causes.Refusal.{Refusal}
use Rattle.run_report.specs.declared.causes.Refusal.TheVariants as refusals
use Rattle.spin_checks.specs.Findings.{name_at}

-- the name of the vertex at a place
abbrev pub vertex_name_in : List Vertex → ℕ → List ℕ
vertex_name_in vertices i = option_map_or (λ (vertex : Vertex). vertex.name) (slice_get vertices i) []

-- the name of the vertex without room
abbrev pub vertex_in : Graph → PlaceErr → List ℕ
vertex_in graph (places.NoRoom i) = vertex_name_in graph.vertices i
vertex_in graph places.Memory = []

-- the refusal of a vertex without room, by this name
abbrev pub place_refusal : PlaceErr → Result (List ℕ) Memory → Refusal
place_refusal (places.NoRoom i) (Ok name) = refusals.NoRoom name
place_refusal (places.NoRoom i) (Err memory) = refusals.Memory
place_refusal places.Memory name = refusals.Memory

-- the name of the net without keys
abbrev pub net_in : Graph → KeyErr → List ℕ
net_in graph (keys.KeysOut i) = name_at graph.nets i
net_in graph keys.Memory = []

-- the refusal of a net without keys, by this name
abbrev pub key_refusal : KeyErr → Result (List ℕ) Memory → Refusal
key_refusal (keys.KeysOut i) (Ok name) = refusals.KeysOut name
key_refusal (keys.KeysOut i) (Err memory) = refusals.Memory
key_refusal keys.Memory name = refusals.Memory
