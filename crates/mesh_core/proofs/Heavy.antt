-- Weights that are powers of 25.
use Rattle.mesh_core.proofs.Common.{Among, List, Mark, [], arith, inl, inr, length, refl, suc, sum_by, sum_by-cons, zero, ℕ, ◌*◌, ◌∷◌, ◌≤◌}
use Rattle.mesh_core.specs.Heavy.{heavy}

pub one_heavy : (n : ℕ) → 1 ≤ heavy n
unfolding heavy
one_heavy zero = omega arith
one_heavy (suc n) = let rest = one_heavy n in omega (arith, rest)

pub heavy_grows : (m n : ℕ) → m ≤ n → heavy m ≤ heavy n
unfolding heavy
heavy_grows zero n below = one_heavy n
heavy_grows (suc m) zero below = absurd (omega (arith, below))
heavy_grows (suc m) (suc n) below = let rest = heavy_grows m n (omega (arith, below)) in omega (arith, rest)

-- marks of which none weighs more than n
pub light : (weight_of : Mark → ℕ) (come : List Mark) (n : ℕ) → ((y : Mark) → Among y come → weight_of y ≤ n) → sum_by weight_of come ≤ n * length come
light weight_of [] n each = omega arith
light weight_of (y ∷ ys) n each =
    let first = each y (inl refl) in
    let rest = light weight_of ys n (λ z a. each z (inr a)) in
    omega (arith, first, rest, sum_by-cons weight_of y ys)
