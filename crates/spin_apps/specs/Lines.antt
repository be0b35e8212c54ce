-- The line of each answer (this project's own).
use Rattle.std.specs.Prelude.{ℕ, List, [], ◌∷◌, slice_get, codes, decimal}
use Rattle.std.specs.Option.{option_map_or}
use Rattle.app_graph.specs.declared.graphs.Graph.{Graph}
use Rattle.app_graph.specs.declared.graphs.Net.{Net}
use Rattle.app_graph.specs.declared.graphs.Vertex.{Vertex}
use Rattle.run_report.specs.ReportText.{line}
use Rattle.app_loads.specs.declared.answers.LoadRefusal.{LoadRefusal}
use Rattle.app_loads.specs.declared.answers.LoadRefusal.TheVariants.{Loaded, MemoryOut, KeysOut, RowsOut}
use Rattle.spin_apps.specs.declared.hosts.LoadAnswer.{LoadAnswer}
use Rattle.spin_apps.specs.declared.hosts.LoadAnswer.TheVariants.{Done, NoRoom, CutOff, Refused}
use Rattle.spin_apps.specs.declared.hosts.UnloadAnswer.{UnloadAnswer}
use Rattle.spin_apps.specs.declared.hosts.UnloadAnswer.TheVariants.{Got, NotLoaded, Waiting}

-- the name of the vertex or net at a place
abbrev pub vertex_name_at : Graph → ℕ → List ℕ
vertex_name_at graph i = option_map_or (λ (v : Vertex). v.name) (slice_get graph.vertices i) []

abbrev pub net_name_at : Graph → ℕ → List ℕ
net_name_at graph i = option_map_or (λ (n : Net). n.name) (slice_get graph.nets i) []

-- the words of a load that is refused, after its number
abbrev pub refusal_words : Graph → LoadRefusal → List (List ℕ)
refusal_words graph Loaded = codes "loaded" ∷ []
refusal_words graph (MemoryOut vertex) = codes "memory" ∷ codes "out" ∷ vertex_name_at graph vertex ∷ []
refusal_words graph (KeysOut net) = codes "keys" ∷ codes "out" ∷ net_name_at graph net ∷ []
refusal_words graph (RowsOut c) = codes "rows" ∷ codes "out" ∷ decimal c.x ∷ decimal c.y ∷ []

-- the words of a load after its number
abbrev pub load_words : Graph → LoadAnswer → List (List ℕ)
load_words graph Done = codes "ok" ∷ []
load_words graph (NoRoom vertex) = codes "no" ∷ codes "room" ∷ vertex_name_at graph vertex ∷ []
load_words graph (CutOff net c) = codes "cut" ∷ codes "off" ∷ net_name_at graph net ∷ decimal c.x ∷ decimal c.y ∷ []
load_words graph (Refused refusal) = refusal_words graph refusal

abbrev pub load_line : ℕ → Graph → LoadAnswer → List ℕ
load_line number graph answer = line (codes "load" ∷ decimal number ∷ load_words graph answer)

-- the words of an unload after its number
abbrev pub unload_words : UnloadAnswer → List (List ℕ)
unload_words (Got delivered dumped) = codes "got" ∷ decimal delivered ∷ codes "dumped" ∷ decimal dumped ∷ []
unload_words NotLoaded = codes "not" ∷ codes "loaded" ∷ []
unload_words (Waiting packet) = codes "waiting" ∷ decimal packet ∷ []

abbrev pub unload_line : ℕ → UnloadAnswer → List ℕ
unload_line number answer = line (codes "unload" ∷ decimal number ∷ unload_words answer)

abbrev pub run_line : List ℕ
run_line = line (codes "run" ∷ [])
