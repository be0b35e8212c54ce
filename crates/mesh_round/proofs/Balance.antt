-- What the queues of a list held, and what entered and left them, as marks.
use Rattle.mesh_round.proofs.Common.{Bool, List, Mark, McCopy, Station, [], add-one, ap, arith, count_by, count_by-append, gathered, length, map-append, marks_at, range_with_len, refl, slice_index_or}
use Rattle.mesh_round.proofs.Common.{subst, suc, sum_by, sum_by-cons, zero-add, ℕ, ◌++◌, ◌+◌, ◌<◌, ◌∙◌, ◌∷◌, ◌≡◌}

module _ (p : Mark → Bool) (station : ℕ → Station) (entered left : ℕ → List McCopy) where
  -- how many marks of a list of copies at a queue's station pass
  abbrev pub passing : (ℕ → List McCopy) → ℕ → ℕ
  passing copies i = count_by p (marks_at (station i) (copies i))

  -- how many marks of a list of queues pass, from a first place on
  abbrev pub passing_in : ℕ → List (List McCopy) → ℕ
  passing_in a queues = count_by p (gathered (λ i copies. marks_at (station i) copies) a queues)

  passing-append : (i : ℕ) (xs ys : List McCopy) → count_by p (marks_at (station i) (xs ++ ys)) ≡ count_by p (marks_at (station i) xs) + count_by p (marks_at (station i) ys)
  passing-append i xs ys = grind (arith, count_by p, count_by-append p (marks_at (station i) xs) (marks_at (station i) ys), map-append)

  one_queue : (i : ℕ) (x y : List McCopy) → x ++ entered i ≡ left i ++ y →
      count_by p (marks_at (station i) x) + passing entered i ≡ passing left i + count_by p (marks_at (station i) y)
  one_queue i x y same = grind (arith, passing-append i x (entered i), passing-append i (left i) y, count_by)

  -- Where each queue holds before and gets what it gives and holds after, so do their marks.
  queues_balance : (a : ℕ) (xs ys : List (List McCopy)) → length ys ≡ length xs →
      ((i : ℕ) → i < length xs → slice_index_or xs i [] ++ entered (a + i) ≡ left (a + i) ++ slice_index_or ys i []) →
      passing_in a xs + sum_by (passing entered) (range_with_len a (length xs)) ≡ sum_by (passing left) (range_with_len a (length xs)) + passing_in a ys
  queues_balance a [] [] long same = refl
  queues_balance a [] (y ∷ ys) long same = absurd (omega (arith, long))
  queues_balance a (x ∷ xs) [] long same = absurd (omega (arith, long))
  queues_balance a (x ∷ xs) (y ∷ ys) long same =
      let here : a + 0 ≡ a = omega arith in
      let first = one_queue a x y (subst (λ j. x ++ entered j ≡ left j ++ y) here (same 0 (omega arith))) in
      let rest = queues_balance (a + 1) xs ys (omega (arith, long)) (λ i below.
      let next : a + (i + 1) ≡ (a + 1) + i = omega arith in
      subst (λ j. slice_index_or xs i [] ++ entered j ≡ left j ++ slice_index_or ys i []) next
      (subst (λ j. slice_index_or (x ∷ xs) j [] ++ entered (a + (i + 1)) ≡ left (a + (i + 1)) ++ slice_index_or (y ∷ ys) j []) (add-one i) (same (i + 1) (omega (arith, below))))) in
      let in_x = count_by-append p (marks_at (station a) x) (gathered (λ i copies. marks_at (station i) copies) (a + 1) xs) in
      let in_y = count_by-append p (marks_at (station a) y) (gathered (λ i copies. marks_at (station i) copies) (a + 1) ys) in
      let long_x : length (x ∷ xs) ≡ suc (length xs) = omega arith in
      let entered_sum : sum_by (passing entered) (range_with_len a (length (x ∷ xs))) ≡ passing entered a + sum_by (passing entered) (range_with_len (a + 1) (length xs)) =
      ap (λ n. sum_by (passing entered) (range_with_len a n)) long_x ∙ sum_by-cons (passing entered) a (range_with_len (a + 1) (length xs)) in
      let left_sum : sum_by (passing left) (range_with_len a (length (x ∷ xs))) ≡ passing left a + sum_by (passing left) (range_with_len (a + 1) (length xs)) =
      ap (λ n. sum_by (passing left) (range_with_len a n)) long_x ∙ sum_by-cons (passing left) a (range_with_len (a + 1) (length xs)) in
      omega (arith, first, rest, in_x, in_y, entered_sum, left_sum)

  -- The same of lists of so many queues.
  pub balance_of_queues : (n : ℕ) (xs ys : List (List McCopy)) → length xs ≡ n → length ys ≡ n →
      ((i : ℕ) → i < n → slice_index_or xs i [] ++ entered i ≡ left i ++ slice_index_or ys i []) →
      passing_in 0 xs + sum_by (passing entered) (range_with_len 0 n) ≡ sum_by (passing left) (range_with_len 0 n) + passing_in 0 ys
  balance_of_queues n xs ys long_x long_y same = grind (arith, queues_balance, zero-add)
