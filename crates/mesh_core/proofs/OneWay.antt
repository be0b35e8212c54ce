-- A net that stands on a machine has one way to each target.
use Rattle.mesh_core.proofs.Common.{All-contains, AreNetsOn, ComesBy, Contains, Description, Edge, Exit, ExitLeads, IsBranch, IsRoutingTree, IsWayOn, List, Local, NetPlan, Some, Spot, [], ap, arith}
use Rattle.mesh_core.proofs.Common.{comes_by, exit_leads, exit_of, get_or, last_exit, length, map, one_edge_into, refl, same_Some, same_exit, same_lists, same_place, slice_get, slice_get-get_or}
use Rattle.mesh_core.proofs.Common.{slice_get_there, slice_get_within, subst, suc, sym, zero, ℕ, ◌+◌, ◌-◌, ◌∙◌, ◌∷◌, ◌≡◌}
use Rattle.mesh_core.proofs.Ways.{vertex_at_stands}

module _ (m : Description) (net : NetPlan) (tree : IsRoutingTree m net.tree.root net.tree.edges net.targets) where
  -- the last exit of a branch is by the output that leads to its target
  pub last_place : (t : Spot) (xs : List Exit) → IsBranch m net.tree.root net.tree.edges t xs →
      (i : ℕ) × (slice_get xs i ≡ Some (last_exit t)) × (i + 1 ≡ length xs)
  last_place t [] is = absurd is
  last_place t (x ∷ xs) is =
      let i : ℕ = length xs in
      let there = slice_get_there (x ∷ xs) i (omega arith) in
      (i, there.1 ∙ ap Some (by_end there.0 (exit_leads m net.tree.edges t net.tree.root (x ∷ xs) i there.0 is there.1)), omega arith)
    where
      by_end : (z : Exit) → ExitLeads m net.tree.edges t (x ∷ xs) (length xs) z → z ≡ last_exit t
      by_end z its_1 = grind (arith, slice_get_within, same_exit, last_exit)

  module _ (t : Spot) (xs ys : List Exit) (is : IsBranch m net.tree.root net.tree.edges t xs) (also : IsBranch m net.tree.root net.tree.edges t ys) where
    one_length : length xs ≡ length ys
    one_length =
        let x = last_place t xs is in
        let y = last_place t ys also in
        let place = same_place m net.tree.root net.tree.edges (map (λ z. z.chip) net.targets) tree t t xs ys is also x.0 y.0 (last_exit t) (last_exit t) x.1 y.1 refl in
        sym x.2 ∙ (ap (λ n. n + 1) place.0 ∙ y.2)

    -- the exits at a place, counted from the end
    same_from_end : (n i : ℕ) → i + 1 + n ≡ length xs → slice_get xs i ≡ slice_get ys i
    same_from_end zero i far = grind (arith, last_place t xs is, last_place t ys also, one_length)
    same_from_end (suc n) i far =
        let next = slice_get_there xs (suc i) (omega (arith, far)) in
        let too : slice_get ys (suc i) ≡ Some next.0 = sym (same_from_end n (suc i) (omega (arith, far))) ∙ next.1 in
        let x : ComesBy m net.tree.edges xs Local i next.0.chip = comes_by m net.tree.edges t net.tree.root Local xs i next.0 is next.1 in
        let y : ComesBy m net.tree.edges ys Local i next.0.chip = comes_by m net.tree.edges t net.tree.root Local ys i next.0 also too in
        let one : x.edge ≡ y.edge =
        one_edge_into m net.tree.root net.tree.edges (map (λ z. z.chip) net.targets) tree x.edge y.edge next.0.chip x.in_tree y.in_tree x.leads y.leads in
        x.before ∙ (ap (λ (e : Edge). Some (exit_of e)) one ∙ sym y.before)

    -- Two branches to one target are one.
    pub one_branch : xs ≡ ys
    one_branch = same_lists xs ys one_length (λ i d within.
        let n_is : i + 1 + (length xs - (i + 1)) ≡ length xs = omega (arith, within) in
        same_Some (get_or xs i d) (get_or ys i d) (sym (slice_get-get_or xs i d within)
        ∙ (same_from_end (length xs - (i + 1)) i n_is ∙ slice_get-get_or ys i d (omega (arith, within, one_length)))))

-- a way of a net to a target
pub record AWay (m : Description) (spots : List Spot) (net : NetPlan) : Type 0 where
  pub target : Spot
  pub branch : List Exit
  pub from : ℕ
  pub to : ℕ
  pub way : IsWayOn m spots net target branch from to

-- ways to one vertex have one branch
pub same_branch : (m : Description) (spots : List Spot) (nets : List NetPlan) → AreNetsOn m spots nets → (net : NetPlan) → Contains nets net →
    (t u : Spot) (xs ys : List Exit) (from from' to : ℕ) → IsWayOn m spots net t xs from to → IsWayOn m spots net u ys from' to → xs ≡ ys
same_branch m spots nets stand net has t u xs ys from from' to w w' =
    let tree = All-contains (λ n. IsRoutingTree m n.tree.root n.tree.edges n.targets) nets net stand.trees has in
    let same : t ≡ u = same_Some t u (sym (vertex_at_stands spots t to w.ends) ∙ vertex_at_stands spots u to w'.ends) in
    one_branch m net tree u xs ys (subst (λ (z : Spot). IsBranch m net.tree.root net.tree.edges z xs) same w.is_branch) w'.is_branch

-- Two ways to one target are one.
pub one_way : (m : Description) (spots : List Spot) (nets : List NetPlan) → AreNetsOn m spots nets → (net : NetPlan) → Contains nets net →
    (t : Spot) (xs ys : List Exit) (from from' to to' : ℕ) → IsWayOn m spots net t xs from to → IsWayOn m spots net t ys from' to' →
    (xs ≡ ys) × (from ≡ from') × (to ≡ to')
one_way m spots nets stand net has t xs ys from from' to to' w w' =
    let tree = All-contains (λ n. IsRoutingTree m n.tree.root n.tree.edges n.targets) nets net stand.trees has in
    (one_branch m net tree t xs ys w.is_branch w'.is_branch, same_Some from from' (sym w.begins ∙ w'.begins), same_Some to to' (sym w.ends ∙ w'.ends))
