-- Sums and counts over lists: where all tests count as many, all sums are equal.
use Rattle.mesh_round.proofs.Common.{Among, Bool, List, Some, [], arith, cond, count_by, inl, inr, lt-ltb, nat_lt, refl, slice_get, suc, sum_by, sum_by-cons, true, zero, ℕ, ◌+◌, ◌-◌, ◌∙◌, ◌∷◌, ◌≡◌}
use Rattle.mesh_round.proofs.Common.{◌≤◌}
use Rattle.mesh_round.proofs.Sums.{sum_agree, sum_none, sum_plus, sum_at}

abbrev pub one_if : Bool → ℕ
one_if b = cond b 1 0

pub sum_within : {X : Type 0} (f g : X → ℕ) (xs : List X) → ((x : X) → Among x xs → f x ≤ g x) → sum_by f xs ≤ sum_by g xs
sum_within f g [] less = omega arith
sum_within f g (x ∷ xs) less =
    let a = sum_by-cons f x xs in
    let b = sum_by-cons g x xs in
    let first = less x (inl refl) in
    let rest = sum_within f g xs (λ y a. less y (inr a)) in
    omega arith

-- a part of a sum
pub part_of_sum : {X : Type 0} (f : X → ℕ) (x : X) (xs : List X) → Among x xs → f x ≤ sum_by f xs
part_of_sum f x [] a = absurd a
part_of_sum f x (y ∷ ys) (inl here) = grind (arith, sum_by-cons f y ys)
part_of_sum f x (y ∷ ys) (inr later) = grind (arith, sum_by-cons f y ys, part_of_sum f x ys later)

pub part_of_sum_at : {X : Type 0} (h : ℕ → X → ℕ) (a : ℕ) (xs : List X) (i : ℕ) (x : X) → slice_get xs i ≡ Some x → h (a + i) x ≤ sum_at h a xs
part_of_sum_at h a [] i x at = cc
part_of_sum_at {X} h a (y ∷ ys) zero x at = grind arith
part_of_sum_at h a (y ∷ ys) (suc i) x at = grind (arith, part_of_sum_at h (a + 1) ys i x at)

-- an item that passes counts
pub counts : {X : Type 0} (p : X → Bool) (x : X) (xs : List X) → Among x xs → p x ≡ true → 1 ≤ count_by p xs
counts p x xs a passes = grind (arith, part_of_sum)

one_and_less : (n : ℕ) → n ≡ one_if (nat_lt 0 n) + (n - 1)
one_and_less n = grind (arith, lt-ltb)

-- Where every test counts as many in one list as in another, every sum over the two is equal.
pub same_sums : {X : Type 0} (xs ys : List X) → ((p : X → Bool) → count_by p xs ≡ count_by p ys) → (w : X → ℕ) → sum_by w xs ≡ sum_by w ys
same_sums {X} xs ys same w =
    below (sum_by w xs + sum_by w ys) w
    (λ x a. let part = part_of_sum w x xs a in omega arith)
    (λ x a. let part = part_of_sum w x ys a in omega arith)
  where
    split : (v : X → ℕ) (zs : List X) → sum_by v zs ≡ count_by (λ x. nat_lt 0 (v x)) zs + sum_by (λ x. v x - 1) zs
    split v zs =
        sum_agree v (λ x. one_if (nat_lt 0 (v x)) + (v x - 1)) zs (λ x a. one_and_less (v x))
        ∙ sum_plus (λ x. one_if (nat_lt 0 (v x))) (λ x. v x - 1) zs

    below : (b : ℕ) (v : X → ℕ) → ((x : X) → Among x xs → v x ≤ b) → ((x : X) → Among x ys → v x ≤ b) → sum_by v xs ≡ sum_by v ys
    below zero v in_xs in_ys = grind (arith, sum_none)
    below (suc b) v in_xs in_ys =
        let first = split v xs in
        let second = split v ys in
        let rest = below b (λ x. v x - 1) (λ x a. let small = in_xs x a in omega arith) (λ x a. let small = in_ys x a in omega arith) in
        omega arith
