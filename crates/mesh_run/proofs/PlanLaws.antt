-- How a mesh is split.
use Rattle.mesh_run.proofs.Common.{All, All-append, All-at, AreCutsOf, AreHomesOf, AreInside, AreShared, Away, Cut, FitHomes, FitsQueue, HoldNothing, Home, IsEmptyHand, IsMesh, IsShareTable, List}
use Rattle.mesh_run.proofs.Common.{McCopy, Setup, Share, Some, State, [], ap, arith, cases_lt, cut_queues, get_or, get_or-map, get_or_past, grid_size, length, length-map, length-replicate, port_count}
use Rattle.mesh_run.proofs.Common.{slice_get, slice_get-get_or, slice_get_within, subst, sym, ℕ, ◌*◌, ◌++◌, ◌+◌, ◌<◌, ◌∙◌, ◌≡◌, ◌≤◌}
use Rattle.mesh_run.proofs.FloorLaws.{few_chips, few_vertices}

-- each share has a place for each queue, and for each vertex
pub plan_shared : (u : Setup) (ends : List ℕ) (queues vertices : ℕ) (shares : List Share) → HoldNothing ends queues vertices shares → queues ≡ port_count u + length u.spots →
    vertices ≡ length u.spots → AreShared u ends shares
plan_shared u ends queues vertices shares nothing places all = record {
  long = nothing.long;
  from = nothing.from;
  to = nothing.to;
  ends_long = λ k s at. ap length (hand k s at).ends ∙ (length-replicate queues Away ∙ places);
  unsent_long = λ k s at. ap length (hand k s at).unsent ∙ (length-replicate vertices [] ∙ all);
}
  where
    hand : (k : ℕ) (s : Share) → slice_get shares k ≡ Some s → IsEmptyHand queues vertices s.hold
    hand k s at = All-at (λ (x : Share). IsEmptyHand queues vertices x.hold) shares k s nothing.hands at

-- each queue of a mesh, with as many queues and vertices as another, has its homes, and each share its places
pub homes_fit : (m s : State) (ends table : List ℕ) (homes : List Home) (shares : List Share) → IsMesh m → length s.inputs ≡ length m.inputs → length s.cores ≡ length m.cores →
    length s.unsent ≡ length m.unsent → IsShareTable (2 * grid_size m.setup) ends table → AreHomesOf m.setup table homes → AreShared m.setup ends shares → FitHomes s homes shares
homes_fit m s ends table homes shares mesh inputs cores unsent numbers are shared = record {
  long = omega (arith, are.long, mesh.input_lists, mesh.core_lists, inputs, cores);
  vertices = omega (arith, mesh.core_lists, mesh.unsent_lists, cores, unsent);
  senders = λ i d below. (both i d below).0;
  receivers = λ i d below. (both i d below).1;
  ends_long = λ k d below. shared.ends_long k (get_or shares k d) (slice_get-get_or shares k d below) ∙ sym are.long;
  unsent_long = λ k d below. shared.unsent_long k (get_or shares k d) (slice_get-get_or shares k d below) ∙ sym (unsent ∙ mesh.unsent_lists);
}
  where
    both : (i : ℕ) (d : Home) → i < length homes → ((get_or homes i d).sender < length shares) × ((get_or homes i d).receiver < length shares)
    both i d below = are.below i (get_or homes i d) (length shares) (slice_get-get_or homes i d below) (λ a k at. subst (λ (n : ℕ). k < n) (sym shared.long) (numbers.below a k at))

pub cuts_inside : (homes : List Home) (cuts : List Cut) (n : ℕ) → AreCutsOf homes cuts → length homes ≡ n → AreInside n cuts
cuts_inside homes cuts n are long = λ i d below.
    let cut = are.cut i (get_or cuts i d) (slice_get-get_or cuts i d below) in
    subst (λ (k : ℕ). (get_or cuts i d).queue < k) long (slice_get_within homes (get_or cuts i d).queue (record { sender = (get_or cuts i d).sender; receiver = (get_or cuts i d).receiver }) cut.0)

pub fits_at : (cap : ℕ) (queues : List (List McCopy)) (i : ℕ) → All (FitsQueue cap) queues → length (get_or queues i []) ≤ cap
fits_at cap queues i all = grind (arith, cases_lt i (length queues), get_or queues i, get_or_past queues i)

pub cuts_fit : (m : State) (cuts : List Cut) → IsMesh m → All (λ q. length q ≤ m.setup.capacity) (cut_queues (m.inputs ++ m.cores) cuts)
cuts_fit m cuts mesh = λ i d below.
    let inside : i < length cuts = subst (λ (n : ℕ). i < n) (length-map cuts (λ (c : Cut). get_or (m.inputs ++ m.cores) c.queue [])) below in
    let nothing : Cut = record { queue = 0; sender = 0; receiver = 0 } in
    subst (λ (q : List McCopy). length q ≤ m.setup.capacity) (sym (get_or-map (λ (c : Cut). get_or (m.inputs ++ m.cores) c.queue []) cuts i nothing d inside))
    (fits_at m.setup.capacity (m.inputs ++ m.cores) (get_or cuts i nothing).queue (All-append (FitsQueue m.setup.capacity) m.inputs m.cores mesh.inputs_within mesh.cores_within))

-- there are fewer queues than numbers of a word
pub few_homes : (m : State) (table : List ℕ) (homes : List Home) → IsMesh m → AreHomesOf m.setup table homes → length homes ≤ 200000
few_homes m table homes mesh are = grind (arith, few_vertices m.setup.machine m.setup.spots mesh.different mesh.sites mesh.size, few_chips m.setup.machine mesh.size)
