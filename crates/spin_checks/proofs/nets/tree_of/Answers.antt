use Rattle.spin_checks.proofs.Common.{AllPairs, Edge, IsEdgeBefore, List, answers_always, edge_key, rules, subst, sym}
use Rattle.spin_checks.proofs.Sorting.{never_falls}
use Rattle.spin_checks.proofs.nets.tree_of.Goals as goal

pub returns : goal.returns
returns c = record {
  begins = search rules;
  same_edges = search rules;
  in_order = subst (λ (edges : List Edge). AllPairs (λ e f. IsEdgeBefore f e → ⊥) edges) (sym c.from_vec.ensures)
      (never_falls _ (c.in_ok-sort_by_key.ensures.sorted edge_key (answers_always _ _ _ (λ f a r g h. search rules))));
}
