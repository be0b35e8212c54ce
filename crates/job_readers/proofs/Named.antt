-- A job without a fault has no name twice.
use Rattle.job_readers.proofs.Common.{AllPairs, Among, Block, Bool, Data, Edge, Graph, HasNamesApart, JobFault, List, Net, None, Option, Some, Vertex, [], among_left, among_right, arith, bytes_eq}
use Rattle.job_readers.proofs.Common.{bytes_eq-Decides, codes, devices_of, double_faults, false, fixed_blocks_of, get_or, if◌then◌else◌, inl, inr, item_at, length, list_member, list_member_faults}
use Rattle.job_readers.proofs.Common.{map, map_among, member_at, member_of, name_place_in, next_net_faults, next_vertex_faults, object_faults, object_value, option_map, refl, subst, suc, sym}
use Rattle.job_readers.proofs.Common.{text_faults, text_value, true, true≢false, zero, ℕ, ◌++◌, ◌+◌, ◌<◌, ◌∙◌, ◌∷◌, ◌≡◌, ◌≢◌, ◌▹◌}
use Rattle.job_readers.specs.GraphPart.{graph_faults, graph_members, graph_members_faults, graph_value, name_faults, name_value, net_faults, net_names, net_value, nets_faults, nets_value}
use Rattle.job_readers.specs.{GraphPart.vertex_faults, GraphPart.vertex_names_of, GraphPart.vertex_value, GraphPart.vertices_faults, GraphPart.vertices_value, Items.following_faults}
use Rattle.job_readers.specs.Places.{new_name_faults}
use Rattle.job_readers.proofs.NoFaults.{none_first, none_inside, none_second}

unmapped : (o : Option ℕ) → option_map (λ i. i + 1) o ≡ None → o ≡ None
unmapped None none = refl
unmapped (Some i) none = cc

-- ---- a name that has no place in a list is none of it

no_place : (names : List (List ℕ)) (s : List ℕ) → name_place_in names s ≡ None → Among s names → ⊥
no_place [] s none a = absurd a
no_place (n ∷ names) s none a = by_first (bytes_eq n s) refl none a (no_place names s)
  where
    by_first : (b : Bool) → bytes_eq n s ≡ b → (if b then Some 0 else option_map (λ i. i + 1) (name_place_in names s)) ≡ None → Among s (n ∷ names) →
        (name_place_in names s ≡ None → Among s names → ⊥) → ⊥
    by_first true same none' a' rest = cc
    by_first false other none' (inl here) rest = true≢false (sym ((bytes_eq-Decides n s).1 (sym here)) ∙ other)
    by_first false other none' (inr later) rest = rest (unmapped (name_place_in names s) none') later

-- ---- items of which each has a name that none before it has

module _ {A : Type 0} (name : A → List ℕ) (f : List A → List ℕ → Data → List JobFault) (value : Data → A)
    (tells : (before : List A) (path : List ℕ) (d : Data) → f before path d ≡ [] → name_place_in (map name before) (name (value d)) ≡ None) where
  apart_from : (before : List A) (path : List ℕ) (i : ℕ) (ds : List Data) → following_faults f value before path i ds ≡ [] → (a : A) → Among a before →
      (k : ℕ) (e : A) → k < length (map value ds) → name a ≢ name (get_or (map value ds) k e)
  unfolding following_faults
  apart_from before path i [] none a has k e below same = absurd (omega (arith, below))
  apart_from before path i (d ∷ ds) none a has zero e below same =
      let here : f before (item_at path i) d ≡ [] = none_first (f before (item_at path i) d) (following_faults f value (before ++ value d ∷ []) path (i + 1) ds) none in
      no_place (map name before) (name (value d)) (tells before (item_at path i) d here) (subst (λ s. Among s (map name before)) same (map_among name a before has))
  apart_from before path i (d ∷ ds) none a has (suc k) e below same =
      apart_from (before ++ value d ∷ []) path (i + 1) ds (none_second (f before (item_at path i) d) (following_faults f value (before ++ value d ∷ []) path (i + 1) ds) none)
      a (among_left a before (value d ∷ []) has) k e (omega (arith, below)) same

  all_apart : (before : List A) (path : List ℕ) (i : ℕ) (ds : List Data) → following_faults f value before path i ds ≡ [] → AllPairs (λ (a : A) b. name a ≢ name b) (map value ds)
  unfolding following_faults
  all_apart before path i [] none j k e less below same = absurd (omega (arith, below))
  all_apart before path i (d ∷ ds) none j zero e less below same = absurd (omega (arith, less))
  all_apart before path i (d ∷ ds) none zero (suc k) e less below same =
      apart_from (before ++ value d ∷ []) path (i + 1) ds (none_second (f before (item_at path i) d) (following_faults f value (before ++ value d ∷ []) path (i + 1) ds) none)
      (value d) (among_right (value d) before (value d ∷ []) (inl refl)) k e (omega (arith, below)) same
  all_apart before path i (d ∷ ds) none (suc j) (suc k) e less below same =
      all_apart (before ++ value d ∷ []) path (i + 1) ds (none_second (f before (item_at path i) d) (following_faults f value (before ++ value d ∷ []) path (i + 1) ds) none)
      j k e (omega (arith, less)) (omega (arith, below)) same

-- ---- what an item without a fault tells

no_double : (path : List ℕ) (o : Option ℕ) → double_faults path o ≡ [] → o ≡ None
no_double path None none = refl
no_double path (Some i) none = cc

new_name : (before : List (List ℕ)) (path : List ℕ) (d : Data) → name_faults before path d ≡ [] → name_place_in before (name_value d) ≡ None
unfolding name_faults new_name_faults name_value
new_name before path d none =
    no_double (member_at path (codes "name")) (name_place_in before (text_value (member_of (codes "name") d)))
    (none_inside (text_faults (member_at path (codes "name")) (member_of (codes "name") d)) (double_faults (member_at path (codes "name")) (name_place_in before (text_value (member_of (codes "name") d)))) none)

pub vertex_is_new : (version : ℕ) (names : List (List ℕ)) (devices : List Edge) (path : List ℕ) (d : Data) → vertex_faults version names devices path d ≡ [] →
    name_place_in names (name_value d) ≡ None
unfolding vertex_faults
vertex_is_new version names devices path d none = new_name names path d (none_first _ _ (none_inside (object_faults path (Some d)) _ none))

pub net_is_new : (version : ℕ) (vertices : List Vertex) (names : List (List ℕ)) (blocks : List Block) (path : List ℕ) (d : Data) → net_faults version vertices names blocks path d ≡ [] →
    name_place_in names (name_value d) ≡ None
unfolding net_faults
net_is_new version vertices names blocks path d none = new_name names path d (none_first _ _ (none_inside (object_faults path (Some d)) _ none))

vertex_tells : (version : ℕ) (before : List Vertex) (path : List ℕ) (d : Data) → next_vertex_faults version before path d ≡ [] →
    name_place_in (map (λ (v : Vertex). v.name) before) (vertex_value version d).name ≡ None
unfolding vertex_value vertex_names_of
vertex_tells version before path d none = vertex_is_new version (vertex_names_of before) (devices_of before) path d none

net_tells : (version : ℕ) (vertices : List Vertex) (before : List Net) (path : List ℕ) (d : Data) → next_net_faults version vertices before path d ≡ [] →
    name_place_in (map (λ (n : Net). n.name) before) (net_value version vertices d).name ≡ None
unfolding net_value net_names
net_tells version vertices before path d none = net_is_new version vertices (net_names before) (fixed_blocks_of before) path d none

vertices_apart : (version : ℕ) (path : List ℕ) (d : Data) → vertices_faults version path d ≡ [] → AllPairs (λ (a : Vertex) b. a.name ≢ b.name) (vertices_value version d)
unfolding vertices_faults vertices_value
vertices_apart version path d none =
    all_apart (λ (v : Vertex). v.name) (next_vertex_faults version) (vertex_value version) (vertex_tells version) [] (member_at path (codes "vertices")) 0 (list_member (codes "vertices") d)
    (none_second (list_member_faults path (codes "vertices") true 16384 d) _ none)

nets_apart : (version : ℕ) (vertices : List Vertex) (path : List ℕ) (d : Data) → nets_faults version vertices path d ≡ [] → AllPairs (λ (a : Net) b. a.name ≢ b.name) (nets_value version vertices d)
unfolding nets_faults nets_value
nets_apart version vertices path d none =
    all_apart (λ (n : Net). n.name) (next_net_faults version vertices) (net_value version vertices) (net_tells version vertices) [] (member_at path (codes "nets")) 0 (list_member (codes "nets") d)
    (none_second (list_member_faults path (codes "nets") true 4096 d) _ none)

graph_apart : (path : List ℕ) (version : ℕ) (job : Data) → graph_faults path version job ≡ [] → HasNamesApart (graph_value version job)
unfolding graph_faults graph_value graph_members graph_members_faults
graph_apart path version job none =
    let d : Data = object_value (member_of (codes "graph") job) in
    let at : List ℕ = member_at path (codes "graph") in
    let inside = none_inside (object_faults at (member_of (codes "graph") job)) (vertices_faults version at d ++ nets_faults version (vertices_value version d) at d) none in
    record {
      vertices = vertices_apart version at d (none_first (vertices_faults version at d) (nets_faults version (vertices_value version d) at d) inside);
      nets = nets_apart version (vertices_value version d) at d (none_second (vertices_faults version at d) (nets_faults version (vertices_value version d) at d) inside);
    }

-- A graph that was read has no name twice.
pub read_apart : (own : List JobFault) (path : List ℕ) (version : ℕ) (job : Data) (graph : Graph) → own ▹ graph_faults path version job ≡ [] → graph ≡ graph_value version job → HasNamesApart graph
read_apart own path version job graph none is = subst HasNamesApart (sym is) (graph_apart path version job (none_inside own (graph_faults path version job) none))
