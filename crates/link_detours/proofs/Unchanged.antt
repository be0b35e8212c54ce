-- A tree over live parts alone is repaired by itself.
use Rattle.link_detours.proofs.Common.{All, All-contains, AreInPlaceOrder, Chip, Contains, Contains-later, CutOff, Description, Edge, EdgeStep, IsKeptEdge, IsLiveLink, IsPath, IsRepairCause}
use Rattle.link_detours.proofs.Common.{IsRepaired, IsTreeChip, IsTreeTo, Joins, LeadsTo, LeadsToTarget, List, LiveEdgeStep, Memory, RepairErr, Steps, [], append-nil, arith, chip_in, edge_down}
use Rattle.link_detours.proofs.Common.{get_or_from_slice_get, link_place, refl, same_in_order, slice_get_within, subst, suc, sym, ℕ, ◌↔◌, ◌∷◌, ◌≡◌, ◌≤◌}
use Rattle.link_detours.proofs.{Stepping.Steps-map, Stepping.Steps-cons, Walks.steps_walk}

-- a path over live edges is as many steps
path_steps : (m : Description) (edges : List Edge) → All (λ e. IsLiveLink m e.chip e.dir) edges → (from to : Chip) (path : List Edge) →
    IsPath m edges from path to → (n : ℕ) × Steps (LiveEdgeStep m edges) n from to
path_steps m edges live from to [] along = (0, along)
path_steps m edges live from to (e ∷ path) along =
    let rest = path_steps m edges live along.2.0 to path along.2.2 in
    let step : LiveEdgeStep m edges e.chip along.2.0 =
    (e.dir, along.0, All-contains (λ f. IsLiveLink m f.chip f.dir) edges e live along.0, along.2.1) in
    (suc rest.0, Steps-cons (LiveEdgeStep m edges) rest.0 from along.2.0 to (subst (λ (c : Chip). LiveEdgeStep m edges c along.2.0) along.1 step) rest.1)

-- a tree that has all targets gets no detour
none_joined : (m : Description) (root : Chip) (tree : List Edge) (targets : List Chip) (whole : List Edge) →
    ((t : Chip) → Contains targets t → IsTreeChip m root tree t) → Joins m root tree targets whole → tree ≡ whole
none_joined m root tree [] whole on joins = joins
none_joined m root tree (t ∷ targets) whole on ([], detour, rest) =
    none_joined m root tree targets whole (λ u has. on u (Contains-later t targets u has)) (subst (λ es. Joins m root es targets whole) (append-nil tree) rest)
none_joined m root tree (t ∷ targets) whole on (e ∷ walk, detour, rest) =
    let least : suc detour.0.level ≤ 0 = detour.0.here.least 0 (t, on t (0, omega arith, refl), refl) in absurd (omega arith)

-- each edge of a tree leads to a target
pub tree_leads : (m : Description) (root : Chip) (edges : List Edge) (targets : List Chip) → IsTreeTo m root edges targets →
    (e : Edge) → Contains edges e → LeadsToTarget m edges targets e
tree_leads m root edges targets tree e has =
    let (c, leads, (to, wanted, (down, along))) = edge_down m root edges targets tree e has in
    let steps = path_steps m edges tree.edges_live c to down along in
    (c, leads, (to, wanted, (steps.0, Steps-map (LiveEdgeStep m edges) (EdgeStep m edges) (λ a b step. (step.0, step.1, step.3)) steps.0 c to steps.1)))

-- a tree that has all targets is joined to them as it is
joins_none : (m : Description) (root : Chip) (tree : List Edge) (targets : List Chip) → ((t : Chip) → Contains targets t → IsTreeChip m root tree t) →
    Joins m root tree targets tree
joins_none m root tree [] on = refl
joins_none m root tree (t ∷ targets) on = (
  [],
  on t (0, omega arith, refl),
  subst (λ es. Joins m root es targets tree) (sym (append-nil tree)) (joins_none m root tree targets (λ u has. on u (Contains-later t targets u has))),
)

-- all edges of a tree are kept
edge_kept : (m : Description) (root : Chip) (edges : List Edge) (targets : List Chip) → IsTreeTo m root edges targets → (e : Edge) → Contains edges e → IsKeptEdge m root edges e
edge_kept m root edges targets tree e has =
    let path = tree.reached e.chip (All-contains (λ f. IsTreeChip m root edges f.chip) edges e tree.edges_begin has) in
    (has, All-contains (λ f. IsLiveLink m f.chip f.dir) edges e tree.edges_live has, path_steps m edges tree.edges_live root e.chip path.0 path.1)

-- So a tree over live parts alone, in order, is repaired by itself.
pub whole_repaired : (m : Description) (root : Chip) (edges : List Edge) (targets : List Chip) → IsTreeTo m root edges targets → AreInPlaceOrder m edges →
    IsRepaired m root edges targets edges
whole_repaired m root edges targets tree ordered = record {
  kept = edges;
  kept_is = λ e. (edge_kept m root edges targets tree e, λ is. is.0);
  whole = edges;
  joined = joins_none m root edges targets (λ t has. All-contains (IsTreeChip m root edges) targets t tree.has_targets has);
  result_is = λ e. (λ has. (has, tree_leads m root edges targets tree e has), λ is. is.0);
  in_order = ordered;
}

module _ (m : Description) (root : Chip) (edges : List Edge) (targets : List Chip) (result : List Edge) (tree : IsTreeTo m root edges targets)
    (repaired : IsRepaired m root edges targets result) where
  -- all edges are kept
  all_kept : (e : Edge) → Contains edges e → Contains repaired.kept e
  all_kept e has = (repaired.kept_is e).1 (edge_kept m root edges targets tree e has)

  -- and no other is joined
  whole_is : repaired.kept ≡ repaired.whole
  whole_is =
      none_joined m root repaired.kept targets repaired.whole
      (λ t has. chip_in m root edges repaired.kept all_kept t (All-contains (IsTreeChip m root edges) targets t tree.has_targets has))
      repaired.joined

  in_whole : (e : Edge) → Contains edges e → Contains repaired.whole e
  in_whole e has = subst (λ es. Contains es e) whole_is (all_kept e has)

  -- each leads to a target
  all_lead : (e : Edge) → Contains edges e → LeadsToTarget m repaired.whole targets e
  all_lead e has =
      let leads = tree_leads m root edges targets tree e has in (
        leads.0,
        leads.1,
        (
          leads.2.0,
          leads.2.1,
          (
            leads.2.2.0,
            Steps-map (EdgeStep m edges) (EdgeStep m repaired.whole) (λ a b step. (step.0, in_whole (record { chip = a; dir = step.0 }) step.1, step.2))
                leads.2.2.0 leads.0 leads.2.0 leads.2.2.1,
          ),
        ),
      )

  -- A tree over live parts alone keeps its edges, and gets no other.
  pub same_edges : (e : Edge) → Contains result e ↔ Contains edges e
  same_edges e = (
    λ has. ((repaired.kept_is e).0 (subst (λ es. Contains es e) (sym whole_is) ((repaired.result_is e).0 has).0)).0,
    λ has. (repaired.result_is e).1 (in_whole e has, all_lead e has),
  )

  -- In order, it is the same list.
  pub unchanged : AreInPlaceOrder m edges → result ≡ edges
  unchanged ordered =
      same_in_order (λ (e : Edge). link_place m e.chip e.dir) result edges repaired.in_order ordered
      (λ e has. (same_edges e).0 has) (λ e has. (same_edges e).1 has)

-- and none of its targets is cut off
pub not_cut_off : (m : Description) (root : Chip) (edges : List Edge) (targets : List Chip) (e : RepairErr) → IsTreeTo m root edges targets →
    IsRepairCause m root targets e → e ≡ Memory
not_cut_off m root edges targets Memory tree cause = refl
not_cut_off m root edges targets (CutOff t) tree cause =
    let has : Contains targets t = (cause.place, slice_get_within targets cause.place t cause.at_place, get_or_from_slice_get targets cause.place t t cause.at_place) in
    let path = tree.reached t (All-contains (IsTreeChip m root edges) targets t tree.has_targets has) in
    let steps = path_steps m edges tree.edges_live root t path.0 path.1 in
    let walk = steps_walk m steps.0 root t (Steps-map (LiveEdgeStep m edges) (LeadsTo m) (λ a b step. (step.0, step.2, step.3)) steps.0 root t steps.1) in
    absurd (cause.cut_off walk.0 walk.1)
