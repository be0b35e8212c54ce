-- Facts on the ways of a net: their ends are vertices, their places are few, and each wanted output lies on one.
use Rattle.mesh_core.proofs.Common.{All, All-contains, AreNetsOn, Bool, Chip, ComesIn, Contains, Description, Dir, Edge, Exit, ExitLeads, IsBranch, IsLiveChip, IsMesh, IsOutput, IsRoutingTree, IsSite}
use Rattle.mesh_core.proofs.Common.{IsWayOn, Link, List, Local, Mark, NetPlan, None, Option, Out, RoutesByTree, Some, Spot, State, and_from, ap, arith, arrival_at, branch_short, chip_eq_same}
use Rattle.mesh_core.proofs.Common.{comes_by, contains_among, edge_wanted, end_on_branch, end_wanted, exit_leads, exit_of, inl, inr, is_on_trail, is_wanted, last_exit, last_hop, leads_to_spot, length}
use Rattle.mesh_core.proofs.Common.{link_on_branch, map, min, mul-le-mul_left, out_eq_same, out_of, out_of-has_bit, position, position-Some, position_nowhere, refl, same_exit, same_place, site_parts}
use Rattle.mesh_core.proofs.Common.{slice_get, slice_get-get_or, slice_index_or, spot_eq, spot_eq_same, spot_eq_true, spot_of_out, suc, sym, true, vertex_at, vertex_behind, wanted_cases, way_first}
use Rattle.mesh_core.proofs.Common.{zero, ℕ, ◌*◌, ◌+◌, ◌<◌, ◌∙◌, ◌≡◌, ◌≤◌, ◌⊎◌}

-- ---- vertices on cores

-- the vertex on a core stands on it
pub vertex_at_stands : (spots : List Spot) (t : Spot) (v : ℕ) → vertex_at spots t ≡ Some v → slice_get spots v ≡ Some t
vertex_at_stands spots t v is =
    let found = position-Some (spot_eq t) spots v t is in
    let there : t ≡ slice_index_or spots v t = spot_eq_true t (slice_index_or spots v t) found.1 in
    slice_get-get_or spots v t found.0 ∙ ap Some (sym there)

-- what is never a number is none
pub none_from : (r : Option ℕ) → ((i : ℕ) → r ≡ Some i → ⊥) → r ≡ None
none_from r never = grind arith

-- what passes a test in a list has a first place
first_place : (p : Spot → Bool) (spots : List Spot) (t : Spot) → Contains spots t → p t ≡ true → (v : ℕ) × (position p spots ≡ Some v)
first_place p spots t has passes = by_answer (position p spots) refl
  where
    by_answer : (v : Option ℕ) → position p spots ≡ v → (v : ℕ) × (position p spots ≡ Some v)
    by_answer (Some v) is = (v, is)
    by_answer None is = absurd (position_nowhere p spots t is (contains_among t spots has) passes)

-- a spot of the list has a vertex
pub vertex_there : (spots : List Spot) (t : Spot) → Contains spots t → (v : ℕ) × (vertex_at spots t ≡ Some v)
vertex_there spots t has = first_place (spot_eq t) spots t has (spot_eq_same t)

-- a spot of the list to which an output leads has a vertex behind the output
pub vertex_behind_there : (spots : List Spot) (c : Chip) (o : Out) (t : Spot) → Contains spots t → leads_to_spot c o t ≡ true → (v : ℕ) × (vertex_behind spots c o ≡ Some v)
vertex_behind_there spots c o t has leads = first_place (leads_to_spot c o) spots t has leads

-- ---- what is common to all ways of one net

-- a net that stands on a mesh, with tables that are right for it
pub record Stands (s : State) (net : NetPlan) : Type 0 where
  pub mesh : IsMesh s
  pub tree : IsRoutingTree s.setup.machine net.tree.root net.tree.edges net.targets
  pub root : net.tree.root ≡ net.source.chip
  pub source : Contains s.setup.spots net.source
  pub targets : All (Contains s.setup.spots) net.targets
  pub right : RoutesByTree s.setup.machine s.setup.tables net

-- a target is the spot of a vertex, so a site
pub target_site : (s : State) (net : NetPlan) → Stands s net → (t : Spot) → Contains net.targets t → IsSite s.setup.machine t
target_site s net stands t has =
    All-contains (IsSite s.setup.machine) s.setup.spots t stands.mesh.sites
    (All-contains (Contains s.setup.spots) net.targets t stands.targets has)

-- the root of a tree that stands is live
pub root_lives : (s : State) (net : NetPlan) → Stands s net → IsLiveChip s.setup.machine net.tree.root
root_lives s net stands = grind (arith, All-contains, site_parts)

-- a branch is shorter than hop numbers go
pub short_branch : (s : State) (net : NetPlan) → Stands s net → (t : Spot) (branch : List Exit) →
    IsBranch s.setup.machine net.tree.root net.tree.edges t branch → length branch ≤ 4096
short_branch s net stands t branch is =
    let m = s.setup.machine in
    let short : length branch ≤ m.width * m.height =
    branch_short m net.tree.root net.tree.edges (map (λ x. x.chip) net.targets) stands.tree (root_lives s net stands) t branch is in
    let w : m.width ≤ 64 = stands.mesh.size.width_to_64 in
    let h : m.height ≤ 64 = stands.mesh.size.height_to_64 in
    let area : m.width * m.height ≤ m.width * 64 = mul-le-mul_left m.width h in
    omega arith

-- the hop number behind a place of a branch is one more
pub onward_hop : (n : ℕ) → n < 4096 → min (n + 1) last_hop ≡ n + 1
onward_hop n few = omega arith

-- two branches of the net that pass a chip pass it at one place and come in at one port
pub one_place : (s : State) (net : NetPlan) → Stands s net → (t u : Spot) (xs ys : List Exit) →
    IsBranch s.setup.machine net.tree.root net.tree.edges t xs → IsBranch s.setup.machine net.tree.root net.tree.edges u ys →
    (i j : ℕ) (x y : Exit) → slice_get xs i ≡ Some x → slice_get ys j ≡ Some y → x.chip ≡ y.chip →
    (i ≡ j) × (arrival_at xs i ≡ arrival_at ys j)
one_place s net stands = same_place s.setup.machine net.tree.root net.tree.edges (map (λ x. x.chip) net.targets) stands.tree

-- the net's packets come in where its branches pass
pub branch_comes_in : (s : State) (net : NetPlan) → (t : Spot) (xs : List Exit) → IsBranch s.setup.machine net.tree.root net.tree.edges t xs →
    (i : ℕ) (x : Exit) → slice_get xs i ≡ Some x → ComesIn s.setup.machine net.tree.root net.tree.edges x.chip (arrival_at xs i)
branch_comes_in s net t xs is zero x at = inl (way_first s.setup.machine net.tree.edges t net.tree.root xs x is at, refl)
branch_comes_in s net t xs is (suc i) x at = grind (arith, comes_by s.setup.machine net.tree.edges t net.tree.root Local xs i x is at)

-- a spot is one to which an output of its chip leads
pub leads_to : (c : Chip) (o : Out) (t : Spot) → t.chip ≡ c → o ≡ out_of t.core → leads_to_spot c o t ≡ true
leads_to c o t at out = grind (arith, and_from, chip_eq_same, out_eq_same)

-- the vertex behind an output stands on a spot to which the output leads
pub vertex_behind_stands : (spots : List Spot) (c : Chip) (o : Out) (v : ℕ) → vertex_behind spots c o ≡ Some v →
    (t : Spot) × (slice_get spots v ≡ Some t) × (t.chip ≡ c) × (out_of t.core ≡ o)
vertex_behind_stands spots c o v is =
    let nothing : Spot = record { chip = c; core = 0 } in
    let found = position-Some (leads_to_spot c o) spots v nothing is in
    let t : Spot = slice_index_or spots v nothing in
    let parts = spot_of_out c o t found.1 in
    (t, slice_get-get_or spots v nothing found.0, parts.0, sym parts.1)

-- the exits of a branch are wanted
pub exit_wanted : (s : State) (net : NetPlan) → (t : Spot) → Contains net.targets t → (xs : List Exit) →
    IsBranch s.setup.machine net.tree.root net.tree.edges t xs → (i : ℕ) (x : Exit) → slice_get xs i ≡ Some x →
    is_wanted net.tree.edges net.targets x.chip x.out ≡ true
exit_wanted s net t has xs is i x at = by_end (exit_leads s.setup.machine net.tree.edges t net.tree.root xs i x is at)
  where
    by_end : ExitLeads s.setup.machine net.tree.edges t xs i x → is_wanted net.tree.edges net.targets x.chip x.out ≡ true
    by_end (inl (d, out, in_tree, next)) = grind (arith, edge_wanted net.tree.edges net.targets (record { chip = x.chip; dir = d }) in_tree)
    by_end (inr (chip, out, last)) = grind (arith, end_wanted net.tree.edges net.targets t has)

-- the exits of a branch are outputs that a route can name
pub exit_is_output : (s : State) (net : NetPlan) → (t : Spot) → (xs : List Exit) →
    IsBranch s.setup.machine net.tree.root net.tree.edges t xs → (i : ℕ) (x : Exit) → slice_get xs i ≡ Some x → IsOutput x.out
exit_is_output s net t xs is i x at = by_end (exit_leads s.setup.machine net.tree.edges t net.tree.root xs i x is at)
  where
    by_end : ExitLeads s.setup.machine net.tree.edges t xs i x → IsOutput x.out
    by_end its_0 = grind (arith, out_of-has_bit)

-- each wanted output lies on a branch, at the chip's place
pub record OnBranch (s : State) (net : NetPlan) (x : Exit) : Type 0 where
  pub target : Spot
  pub is_target : Contains net.targets target
  pub branch : List Exit
  pub is_branch : IsBranch s.setup.machine net.tree.root net.tree.edges target branch
  pub place : ℕ
  pub at : slice_get branch place ≡ Some x

pub wanted_on_branch : (s : State) (net : NetPlan) → Stands s net → (x : Exit) → is_wanted net.tree.edges net.targets x.chip x.out ≡ true → OnBranch s net x
wanted_on_branch s net stands x wanted = by_case (wanted_cases net.tree.edges net.targets x.chip x.out wanted)
  where
    lies : (t : Spot) → Contains net.targets t → (z : Exit) → z ≡ x → (xs : List Exit) × IsBranch s.setup.machine net.tree.root net.tree.edges t xs × Contains xs z → OnBranch s net x
    lies t has z same way = grind (arith, slice_get-get_or way.0 way.2.0 z way.2.1)

    by_case : ((d : Dir) × (x.out ≡ Link d) × Contains net.tree.edges (record { chip = x.chip; dir = d }))
        ⊎ ((t : Spot) × Contains net.targets t × (t.chip ≡ x.chip) × (x.out ≡ out_of t.core)) → OnBranch s net x
    by_case (inl (d, out, has)) =
        let e : Edge = record { chip = x.chip; dir = d } in
        let way = link_on_branch s.setup.machine net.tree.root net.tree.edges net.targets stands.tree e has in
        lies way.0 way.1 (exit_of e) (same_exit (exit_of e) x refl (sym out)) way.2
    by_case (inr (t, has, chip, out)) =
        lies t has (last_exit t) (same_exit (last_exit t) x chip (sym out)) (end_on_branch s.setup.machine net.tree.root net.tree.edges net.targets stands.tree t has)

-- each target of a net that stands has a way
pub some_way : (m : Description) (spots : List Spot) (nets : List NetPlan) → AreNetsOn m spots nets → (net : NetPlan) → Contains nets net →
    (target : Spot) → Contains net.targets target → (branch : List Exit) × (from : ℕ) × (to : ℕ) × IsWayOn m spots net target branch from to
some_way m spots nets stand net has target is_target =
    let tree = All-contains (λ n. IsRoutingTree m n.tree.root n.tree.edges n.targets) nets net stand.trees has in
    let found = end_on_branch m net.tree.root net.tree.edges net.targets tree target is_target in
    let begin = vertex_there spots net.source (All-contains (λ n. Contains spots n.source) nets net stand.sources has) in
    let end = vertex_there spots target (All-contains (Contains spots) net.targets target (All-contains (λ n. All (Contains spots) n.targets) nets net stand.targets has) is_target) in
    (found.0, begin.0, end.0, record { is_target = is_target; is_branch = found.1; begins = begin.1; ends = end.1 })

-- a mark stands on some trail of a net
pub record OnSomeTrail (s : State) (net : NetPlan) (y : Mark) : Type 0 where
  pub target : Spot
  pub branch : List Exit
  pub from : ℕ
  pub to : ℕ
  pub way : IsWayOn s.setup.machine s.setup.spots net target branch from to
  pub on : is_on_trail from to branch y ≡ true
