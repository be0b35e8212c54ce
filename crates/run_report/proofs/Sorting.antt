-- A sort by keys that are tuples of numbers, as an order of lists of numbers.
use Rattle.run_report.proofs.Common.{Bool, Equal, IsPermutation, IsSortedBy, IsSortedByKey, IsSortedStably, IsStableBy, IsStableByKey, List, Ordering, [], arith, is_lt, nat_cmp, ordering_then}
use Rattle.run_report.proofs.Common.{slice_cmp, subst, ℕ, ◌∷◌, ◌≡◌}

two : (a b : Ordering) → ordering_then a b ≡ ordering_then a (ordering_then b Equal)
two a b = grind arith

three : (a b c : Ordering) → ordering_then (ordering_then a b) c ≡ ordering_then a (ordering_then b (ordering_then c Equal))
three a b c = grind (arith, two)

four : (a b c d : Ordering) → ordering_then (ordering_then (ordering_then a b) c) d ≡ ordering_then a (ordering_then b (ordering_then c (ordering_then d Equal)))
four a b c d = grind (arith, three)

five : (a b c d e : Ordering) → ordering_then (ordering_then (ordering_then (ordering_then a b) c) d) e ≡ ordering_then a (ordering_then b (ordering_then c (ordering_then d (ordering_then e Equal))))
five a b c d e = grind (arith, four)

-- pairs, and tuples of four and of five numbers, are ordered as their lists
abbrev pub cmp_two : ℕ × ℕ → ℕ × ℕ → Ordering
cmp_two x y = ordering_then (nat_cmp x.0 y.0) (nat_cmp x.1 y.1)

abbrev pub cmp_four : ℕ × ℕ × ℕ × ℕ → ℕ × ℕ × ℕ × ℕ → Ordering
cmp_four x y = ordering_then (ordering_then (ordering_then (nat_cmp x.0 y.0) (nat_cmp x.1 y.1)) (nat_cmp x.2 y.2)) (nat_cmp x.3 y.3)

abbrev pub cmp_five : ℕ × ℕ × ℕ × ℕ × ℕ → ℕ × ℕ × ℕ × ℕ × ℕ → Ordering
cmp_five x y = ordering_then (ordering_then (ordering_then (ordering_then (nat_cmp x.0 y.0) (nat_cmp x.1 y.1)) (nat_cmp x.2 y.2)) (nat_cmp x.3 y.3)) (nat_cmp x.4 y.4)

module _ {X K : Type 0} (key : X → K) (cmp : K → K → Ordering) (numbers : X → List ℕ) (same : (x y : X) → cmp (key x) (key y) ≡ slice_cmp nat_cmp (numbers x) (numbers y)) where
  alike : ◌≡◌ {A = X → X → Bool} (λ x y. is_lt (cmp (key x) (key y))) (λ x y. is_lt (slice_cmp nat_cmp (numbers x) (numbers y)))
  alike = λ i x y. is_lt (same x y i)

  in_order : (xs ys : List X) → IsPermutation xs ys → IsSortedByKey key cmp ys → IsStableByKey key cmp xs ys → IsSortedStably numbers xs ys
  in_order xs ys moved sorted stable = record {
    same_items = moved;
    ascending = subst (λ lt. IsSortedBy lt ys) alike sorted;
    stable = subst (λ lt. IsStableBy lt xs ys) alike stable;
  }

module _ {X : Type 0} where
  pub in_order_of_two : (key : X → ℕ × ℕ) (xs ys : List X) → IsPermutation xs ys → IsSortedByKey key cmp_two ys → IsStableByKey key cmp_two xs ys → IsSortedStably (λ x. (key x).0 ∷ (key x).1 ∷ []) xs ys
  in_order_of_two key = in_order key cmp_two (λ x. (key x).0 ∷ (key x).1 ∷ []) (λ x y. two (nat_cmp (key x).0 (key y).0) (nat_cmp (key x).1 (key y).1))

  pub in_order_of_four : (key : X → ℕ × ℕ × ℕ × ℕ) (xs ys : List X) → IsPermutation xs ys → IsSortedByKey key cmp_four ys → IsStableByKey key cmp_four xs ys → IsSortedStably (λ x. (key x).0 ∷ (key x).1 ∷ (key x).2 ∷ (key x).3 ∷ []) xs ys
  in_order_of_four key = in_order key cmp_four (λ x. (key x).0 ∷ (key x).1 ∷ (key x).2 ∷ (key x).3 ∷ []) (λ x y. four (nat_cmp (key x).0 (key y).0) (nat_cmp (key x).1 (key y).1) (nat_cmp (key x).2 (key y).2) (nat_cmp (key x).3 (key y).3))

  pub in_order_of_five : (key : X → ℕ × ℕ × ℕ × ℕ × ℕ) (xs ys : List X) → IsPermutation xs ys → IsSortedByKey key cmp_five ys → IsStableByKey key cmp_five xs ys → IsSortedStably (λ x. (key x).0 ∷ (key x).1 ∷ (key x).2 ∷ (key x).3 ∷ (key x).4 ∷ []) xs ys
  in_order_of_five key = in_order key cmp_five (λ x. (key x).0 ∷ (key x).1 ∷ (key x).2 ∷ (key x).3 ∷ (key x).4 ∷ []) (λ x y. five (nat_cmp (key x).0 (key y).0) (nat_cmp (key x).1 (key y).1) (nat_cmp (key x).2 (key y).2) (nat_cmp (key x).3 (key y).3) (nat_cmp (key x).4 (key y).4))
