-- A sort of edges by their numbers puts them in their order.
use Rattle.spin_checks.proofs.Common.{AllPairs, Edge, IsEdgeBefore, IsSortedByKey, IsTotalOrder, List, Ordering, arith, edge_key, is_lt, nat_cmp, nat_cmp_total, on_total, ordering_then, ranked}
use Rattle.spin_checks.proofs.Common.{ranks_by, sorted_far, sym, then_total, true, true≢false, ℕ, ◌∙◌, ◌≡◌}

-- how the code compares two triples
abbrev compared : ℕ × ℕ × ℕ → ℕ × ℕ × ℕ → Ordering
compared a b = ordering_then (ordering_then (nat_cmp a.0 b.0) (nat_cmp a.1 b.1)) (nat_cmp a.2 b.2)

compared_total : IsTotalOrder compared
compared_total =
    let first : (ℕ × ℕ × ℕ) → ℕ = λ a. a.0 in
    let second : (ℕ × ℕ × ℕ) → ℕ = λ a. a.1 in
    let third : (ℕ × ℕ × ℕ) → ℕ = λ a. a.2 in
    then_total (then_total (on_total first nat_cmp_total) (on_total second nat_cmp_total)) (on_total third nat_cmp_total)

-- an edge that comes before another is compared as less
less_before : (e f : Edge) → IsEdgeBefore e f → is_lt (compared (edge_key e) (edge_key f)) ≡ true
less_before e f before = grind (arith, nat_cmp, ranked, is_lt)

pub never_falls : (edges : List Edge) → IsSortedByKey edge_key compared edges → AllPairs (λ e f. IsEdgeBefore f e → ⊥) edges
never_falls edges sorted i j d less short before =
    let never = sorted_far (λ (e f : Edge). is_lt (compared (edge_key e) (edge_key f))) (ranks_by compared_total edge_key) edges sorted i j d (omega arith) short in
    true≢false (sym (less_before _ _ before) ∙ never)
