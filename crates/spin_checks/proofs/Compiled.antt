-- What the compiler makes of a graph is answered right.
use Rattle.spin_checks.proofs.Common.{All, All-at, AllPairs, AreInPlaceOrder, AreNetsWith, AreRoutedApart, Block, Description, Edge, Err, Graph, HasGoodTree, HasKeptRows, HasNoAnswer, IfErr, IfOk}
use Rattle.spin_checks.proofs.Common.{Image, IsAnswer, IsEdgeBefore, IsImageOf, IsInside, IsNetWith, IsPermutation-refl, IsPlanOf, IsPlannedNet, IsRoutingTree, IsVerdict, Judged, List, MatchResult}
use Rattle.spin_checks.proofs.Common.{Memory, Net, NetPlan, Ok, Plan, Refusal, Result, Right, Some, Spells, arith, before_place, blocks_of, edges_inside, get_or, inl, inr, length-map, one_item_at}
use Rattle.spin_checks.proofs.Common.{refl, right_line, routed_of, rules, slice_get, slice_get-mapped, subst, sym, trees_of, ℕ, ◌∙◌, ◌≡◌}
use Rattle.spin_checks.proofs.Refusing.{none_due}

-- ---- the trees of plans are in order

tree_in_order : (m : Description) (edges : List Edge) → All (λ (e : Edge). IsInside m e.chip) edges → AreInPlaceOrder m edges → AllPairs (λ e f. IsEdgeBefore f e → ⊥) edges
tree_in_order m edges inside up i j d less below before =
    let falls = before_place m (get_or edges j d) (get_or edges i d) (inside j d below) before in
    omega (arith, up i j d less below, falls)

module _ (m : Description) (graph : Graph) (target : ℕ) (plan : Plan) (is : IsPlanOf m graph target plan) where
  its_tree : (i : ℕ) (p : NetPlan) → slice_get plan.nets i ≡ Some p → IsRoutingTree m p.tree.root p.tree.edges p.targets
  its_tree i p at = All-at (λ (n : NetPlan). IsRoutingTree m n.tree.root n.tree.edges n.targets) plan.nets i p is.routing.stand.trees at

  -- a planned net is one with its tree
  net_with : (i : ℕ) (net : Net) (block : Block) (p : NetPlan) → IsPlannedNet m plan.placement.spots net block p → slice_get plan.nets i ≡ Some p →
      IsNetWith plan.placement.spots net block p.tree.edges p
  net_with i net block p planned at = search (rules, IsPermutation-refl, tree_in_order, edges_inside, its_tree)

  -- so are all, each with the edges of its tree
  pub are_nets_with : AreNetsWith m graph (trees_of plan.nets) plan.nets
  are_nets_with = record {
    spots = plan.placement.spots;
    memory = plan.placement.memory;
    placed = is.routing.placed;
    blocks = blocks_of plan.nets;
    keyed = is.routing.blocks;
    one_tree_each = length-map plan.nets (λ (net : NetPlan). net.tree.edges) ∙ is.routing.planned.one_plan_each;
    one_plan_each = is.routing.planned.one_plan_each;
    each = λ i net block edges p net_at block_at edges_at p_at.
        let same : p.tree.edges ≡ edges = one_item_at (trees_of plan.nets) i i p.tree.edges edges refl (slice_get-mapped (λ (n : NetPlan). n.tree.edges) plan.nets i p p_at) edges_at in
        subst (λ es. IsNetWith plan.placement.spots net block es p) same (net_with i net block p (is.routing.planned.each i net block p net_at block_at p_at) p_at);
  }

  all_good : All (HasGoodTree m) plan.nets
  all_good k d below =
      let p : NetPlan = get_or plan.nets k d in
      let root : p.tree.root ≡ p.source.chip = is.routing.stand.roots k d below in
      record { begins = root; routes = subst (λ r. IsRoutingTree m r p.tree.edges p.targets) root (is.routing.stand.trees k d below) }

  module _ (v : Image) (bytes : List ℕ) (kept : HasKeptRows m plan.tables v) (spelled : Spells v bytes)
      (made : (routed : AreRoutedApart m plan.nets) → IsImageOf m plan.nets target plan.tables v → IsVerdict m plan.nets v Right) where
    is_image : IsImageOf m plan.nets target plan.tables v
    is_image = record {
      one_each = is.one_table_each;
      finals_are = λ c f inside at. let has = is.tables c f inside at in record { rows = has.rows; plain = has.plain; final = has.is_final };
      rows_are = kept.rows;
    }

    pub answered_right : IsAnswer m graph (trees_of plan.nets) bytes right_line
    answered_right = record {
      nets = plan.nets;
      are = are_nets_with;
      finding = Judged Right;
      found = (all_good, v, spelled, kept.grid, made (routed_of m plan.placement.spots plan.nets is.routing.sites is.routing.stand) is_image);
      told = refl;
    }

    -- whatever is answered, it is right, or memory ran out
    pub right_or_memory : (trees : List (List Edge)) (result : Result (List ℕ) Refusal) → trees ≡ trees_of plan.nets →
        IfOk result (λ text. (other : List ℕ) → IsAnswer m graph trees bytes other → other ≡ text) → IfErr result (HasNoAnswer m graph) →
        MatchResult result (λ text. text ≡ right_line) (λ r. r ≡ Memory)
    right_or_memory trees (Ok text) same only none = sym (only right_line (subst (λ ts. IsAnswer m graph ts bytes right_line) (sym same) answered_right))
    right_or_memory trees (Err r) same only (inl due) = absurd (none_due m graph (trees_of plan.nets) plan.nets r are_nets_with due)
    right_or_memory trees (Err r) same only (inr no_memory) = no_memory
