-- A routing tree is inside the grid, and what is told of its chips is what their lists get.
use Rattle.net_tables.proofs.Common.{All, All-contains, Chip, ComesIn, Description, Edge, GainsMark, HasChip, IsInside, IsOutput, IsRouted, IsRoutingTree, IsTreeChip, List, Mark, NetPlan, None}
use Rattle.net_tables.proofs.Common.{Option, Out, Port, Route, Some, Spot, TellsPort, arith, far_inside, get_or, get_or-map, has, inl, inr, is_wanted, length, length-map, live_ends, live_inside}
use Rattle.net_tables.proofs.Common.{props, refl, subst, sym, tree_cases, with_mark, ℕ, ∥∥₁_elim, ◌<◌, ◌≡◌}

module _ (m : Description) (root : Chip) (edges : List Edge) (targets : List Spot) (tree : IsRoutingTree m root edges targets) where
  pub edges_inside : All (λ (e : Edge). IsInside m e.chip) edges
  edges_inside k d below = grind (arith, live_ends, get_or, live_inside)

  pub chips_inside : IsInside m root → (c : Chip) → IsTreeChip m root edges c → IsInside m c
  chips_inside root_in c on = grind (arith, tree_cases m root edges c on, far_inside, All-contains, edges_inside)

  targets_on : All (λ (s : Spot). IsTreeChip m root edges s.chip) targets
  targets_on k d below =
      subst (IsTreeChip m root edges) (get_or-map (λ (s : Spot). s.chip) targets k d)
      (tree.has_targets k d.chip (subst (λ n. k < n) (sym (length-map targets (λ (s : Spot). s.chip))) below))

-- the same of an edge or a target that is read from a list that is a net's
module _ (m : Description) (net : NetPlan) (routed : ∥ IsRouted m net ∥₁) where
  pub root_in : IsInside m net.tree.root
  root_in = ∥∥₁_elim routed (hlevel props) (λ is. is.root)

  module _ (items : List Edge) (same : items ≡ net.tree.edges) (k : ℕ) (d : Edge) (below : k < length items) where
    pub edge_in : IsInside m (get_or items k d).chip
    edge_in = ∥∥₁_elim routed (hlevel props) (λ is. subst (All (λ (e : Edge). IsInside m e.chip)) (sym same) (edges_inside m net.tree.root net.tree.edges net.targets is.tree) k d below)

    pub edge_not_off : (HasChip m net (get_or items k d).chip → ⊥) → ⊥
    edge_not_off off = ∥∥₁_elim routed (hlevel props) (λ is. off (subst (All (λ (e : Edge). HasChip m net e.chip)) (sym same) is.tree.edges_begin k d below))

  module _ (items : List Spot) (same : items ≡ net.targets) (k : ℕ) (d : Spot) (below : k < length items) where
    on : IsRouted m net → HasChip m net (get_or items k d).chip
    on is = subst (All (λ (s : Spot). HasChip m net s.chip)) (sym same) (targets_on m net.tree.root net.tree.edges net.targets is.tree) k d below

    pub target_in : IsInside m (get_or items k d).chip
    target_in = ∥∥₁_elim routed (hlevel props) (λ is. chips_inside m net.tree.root net.tree.edges net.targets is.tree is.root (get_or items k d).chip (on is))

    pub target_not_off : (HasChip m net (get_or items k d).chip → ⊥) → ⊥
    target_not_off off = ∥∥₁_elim routed (hlevel props) (λ is. off (on is))

    pub core_in : (get_or items k d).core < 24
    core_in = ∥∥₁_elim routed (hlevel props) (λ is. subst (All (λ (s : Spot). s.core < 24)) (sym same) is.cores k d below)

-- where packets come in is a chip of the tree
pub comes_in_tree : (m : Description) (root : Chip) (edges : List Edge) (c : Chip) (port : Port) → ComesIn m root edges c port → IsTreeChip m root edges c
comes_in_tree m root edges c port (inl at) = inl at.0
comes_in_tree m root edges c port (inr by) = inr (by.1.0, by.0, by.1.1, by.1.2, by.2)

pub grows : (m : Description) (net : NetPlan) (c : Chip) (o : Option Port) (route : Route) (before after : List Mark) → TellsPort m net.tree.root net.tree.edges c o →
    ((out : Out) → IsOutput out → has route out ≡ is_wanted net.tree.edges net.targets c out) → after ≡ with_mark net.block o route before → GainsMark m net c before after
grows m net c (Some port) route before after told outputs is =
    inl (
      comes_in_tree m net.tree.root net.tree.edges c port told,
      record { block = net.block; port = port; route = route },
      record { keys = refl; port = told; outputs = outputs },
      is,
    )
grows m net c None route before after told outputs is = inr (told, is)
