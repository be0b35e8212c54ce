-- Rows in the order of their blocks' generality and key.
use Rattle.net_tables.proofs.Common.{AllPairs, AllPairs-map, IsPermutation, IsRowNotAfter, IsSortedByKey, IsTableOf, List, Mark, Ordering, Row, arith, cases_order, false, false≢true, ge_from_not_lt}
use Rattle.net_tables.proofs.Common.{get_or, inl, inr, is_lt, length, map, mark_numbers, nat_cmp, ordering_then, row_of_mark, subst, suc, sym, zero, ℕ, ◌+◌, ◌-◌, ◌<◌, ◌∙◌, ◌≡◌, ◌≤◌, ◌⊎◌}

-- of two pairs of numbers, the second is not less
not_less : (g k h l : ℕ) → is_lt (ordering_then (nat_cmp h g) (nat_cmp l k)) ≡ false → (g < h) ⊎ ((g ≡ h) × (k ≤ l))
not_less g k h l e = grind (arith, cases_order g h, nat_cmp h g, nat_cmp l k, ge_from_not_lt, is_lt, false≢true)

after_both : (r s t : Row) → IsRowNotAfter r s → IsRowNotAfter s t → IsRowNotAfter r t
after_both r s t (inl a) (inl b) = inl (omega (arith, a, b))
after_both r s t (inl a) (inr b) = inl (omega (arith, a, b.0))
after_both r s t (inr a) (inl b) = inl (omega (arith, a.0, b))
after_both r s t (inr a) (inr b) = inr (a.0 ∙ b.0, omega (arith, a.1, b.1))

-- pairs by the numbers that order rows
abbrev pub cmp_two : ℕ × ℕ → ℕ × ℕ → Ordering
cmp_two x y = ordering_then (nat_cmp x.0 y.0) (nat_cmp x.1 y.1)

pub sorted_marks : (marks : List Mark) → IsSortedByKey mark_numbers cmp_two marks → AllPairs (λ (a b : Mark). IsRowNotAfter (row_of_mark a) (row_of_mark b)) marks
sorted_marks marks sorted i j d less below =
    subst (λ n. IsRowNotAfter (row_of_mark (get_or marks i d)) (row_of_mark (get_or marks n d))) (omega arith) (farther (j - suc i) i (omega arith))
  where
    next : (k : ℕ) → k + 1 < length marks → IsRowNotAfter (row_of_mark (get_or marks k d)) (row_of_mark (get_or marks (k + 1) d))
    next k h = not_less _ _ _ _ (sorted k d (omega arith) h)

    farther : (n k : ℕ) → k + suc n < length marks → IsRowNotAfter (row_of_mark (get_or marks k d)) (row_of_mark (get_or marks (k + suc n) d))
    farther zero k h = next k h
    farther (suc n) k h =
        after_both (row_of_mark (get_or marks k d)) (row_of_mark (get_or marks (k + 1) d)) (row_of_mark (get_or marks (k + suc (suc n)) d)) (next k (omega arith))
        (subst (λ p. IsRowNotAfter (row_of_mark (get_or marks (k + 1) d)) (row_of_mark (get_or marks p d))) (omega arith) (farther n (k + 1) (omega arith)))

pub table_sorted : (marks sorted : List Mark) (rows : List Row) → IsPermutation marks sorted → AllPairs (λ (a b : Mark). IsRowNotAfter (row_of_mark a) (row_of_mark b)) sorted →
    rows ≡ map row_of_mark sorted → IsTableOf marks (record { rows = rows })
table_sorted marks sorted rows moved up is = record {
  sorted = sorted;
  same = moved;
  rows_are = is;
  in_order = subst (AllPairs IsRowNotAfter) (sym is) (AllPairs-map row_of_mark (λ (a b : Mark). IsRowNotAfter (row_of_mark a) (row_of_mark b)) IsRowNotAfter (λ a b up. up) sorted up);
}
