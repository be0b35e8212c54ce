use Rattle.ner_trees.proofs.Common.{All-permutation, AllPairs, Edge, Global, IsEdgeBefore, IsEdgeNumber, IsNonDecreasingBy-from_sort, IsPermutation, IsPermutation-map, List, Vec, ap, edge_numbered}
use Rattle.ner_trees.proofs.Common.{map, subst, sym, ℕ, ◌∙◌, ◌≡◌}
use Rattle.ner_trees.proofs.Numbering.{in_order_edges, ok_items}
use Rattle.ner_trees.proofs.growths.in_order.Goals as goal

pub returns : goal.returns
returns c =
    let numbers : List ℕ = c.in_ok-numbers.numbers.items in
    let sorted : List ℕ = c.sort_unstable.new.self.items in
    let moved = c.sort_unstable.ensures.permutation in
    let made : map edge_numbered numbers ≡ c.args.edges.items = c.in_ok-numbers.ensures.back ∙ c.deref.ensures.value in
    let same : IsPermutation c.args.edges.items (map edge_numbered sorted) =
    subst (λ (es : List Edge). IsPermutation es (map edge_numbered sorted)) made (IsPermutation-map edge_numbered numbers sorted moved) in
    let ordered : AllPairs (λ (e f : Edge). IsEdgeBefore f e → ⊥) (map edge_numbered sorted) =
    in_order_edges sorted (IsNonDecreasingBy-from_sort (λ (n : ℕ). n) sorted c.sort_unstable.ensures.sorted)
    (All-permutation IsEdgeNumber numbers sorted moved c.in_ok-numbers.ensures.numbers) in
    let here : map edge_numbered sorted ≡ map edge_numbered c.deref-2.result.now = ap (map edge_numbered) (sym c.deref-2.ensures.value) in
    record {
      same_edges = ok_items c.edges_of.result (λ (v : Vec Edge Global). v.items) (IsPermutation c.args.edges.items) _ c.edges_of.ensures
          (subst (IsPermutation c.args.edges.items) here same);
      in_order = ok_items c.edges_of.result (λ (v : Vec Edge Global). v.items) (AllPairs (λ (e f : Edge). IsEdgeBefore f e → ⊥)) _ c.edges_of.ensures
          (subst (AllPairs (λ (e f : Edge). IsEdgeBefore f e → ⊥)) here ordered);
    }
