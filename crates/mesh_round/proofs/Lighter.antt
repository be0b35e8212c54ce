-- A round leaves less to be done: each of its moves makes the marks lighter.
use Rattle.mesh_round.proofs.Common.{Bag, Flow, HasMoved, IsMesh, IsMoveOf, List, Mark, Moved, Passes, State, [], arith, count_by-append, few_come, heavy_grows, length, light, marks_of}
use Rattle.mesh_round.proofs.Common.{mul-le-mul_left, one_heavy, refl, suc, sum_by, sum_by-append, sum_by-cons, zero, ℕ, ◌++◌, ◌+◌, ◌-◌, ◌<◌, ◌∷◌, ◌≡◌, ◌≤◌}
use Rattle.mesh_core.specs.Heavy.{heavy}
use Rattle.mesh_round.specs.Work.{to_go, work_in, work_weight_of}
use Rattle.mesh_round.proofs.{CountSums.same_sums, Nearer.move_nears, Parts.all_come, Parts.all_left, Parts.come_counts, Parts.left_counts, RoundBag.bag_of_round, RoundBag.some_moves}

-- ---- one move

-- a mark that moves has somewhere to go
some_to_go : {s : State} (v : Moved s) → 1 ≤ to_go v.leaves
unfolding to_go
some_to_go {s} v = grind (arith, IsMoveOf)

-- what comes is lighter than what leaves
come_lighter : {s : State} (v : Moved s) → sum_by work_weight_of v.come < work_weight_of v.leaves
unfolding work_weight_of heavy
come_lighter {s} v = by_far (to_go v.leaves) refl (some_to_go v)
  where
    by_far : (n : ℕ) → to_go v.leaves ≡ n → 1 ≤ n → sum_by work_weight_of v.come < work_weight_of v.leaves
    by_far zero is some = absurd (omega (arith, some))
    by_far (suc n) is some = grind (arith, mul-le-mul_left (heavy n) (few_come s v.leaves v.come v.is_move), few_come s v.leaves v.come v.is_move, one_heavy n, heavy_grows, move_nears, light)

-- ---- all moves of a bag

lighter : {s : State} (vs : List (Moved s)) → sum_by work_weight_of (all_come vs) + length vs ≤ sum_by work_weight_of (all_left vs)
lighter [] = omega arith
lighter (v ∷ vs) = grind (arith, lighter vs, come_lighter v, sum_by-append work_weight_of v.come (all_come vs), all_come vs, sum_by-cons work_weight_of v.leaves (all_left vs), all_left vs)

-- What marks weigh after a bag of moves and what those that left weigh is what was there weighed, and what came, by any weight.
pub even_weights : (s t : State) (bag : Bag s t) (w : Mark → ℕ) → sum_by w (marks_of t) + sum_by w (all_left bag.moves) ≡ sum_by w (marks_of s) + sum_by w (all_come bag.moves)
even_weights s t bag w =
    let out = all_left bag.moves in
    let put = all_come bag.moves in
    let even = same_sums (marks_of t ++ out) (marks_of s ++ put) (λ p.
    let after = count_by-append p (marks_of t) out in
    omega (arith, bag.balance p, left_counts p bag.moves, come_counts p bag.moves, after, count_by-append p (marks_of s) put)) w in
    omega (arith, even, sum_by-append w (marks_of t) out, sum_by-append w (marks_of s) put)

-- A bag of moves takes at least one a move from what is to be done.
bag_lighter : (s t : State) (bag : Bag s t) → work_in t + length bag.moves ≤ work_in s
unfolding work_in
bag_lighter s t bag = omega (arith, even_weights s t bag work_weight_of, lighter bag.moves)

pub round_lighter : (m n : State) (f : Flow) → IsMesh m → IsMesh n → Passes m f n → work_in n ≤ work_in m
round_lighter m n f mesh after passes = grind (arith, bag_lighter m n (bag_of_round m f n mesh after passes), bag_of_round m f n mesh after passes)

pub moved_lighter : (m n : State) (f : Flow) → IsMesh m → IsMesh n → Passes m f n → HasMoved m f → work_in n < work_in m
moved_lighter m n f mesh after passes moved =
    omega (arith, bag_lighter m n (bag_of_round m f n mesh after passes), some_moves m f n mesh after passes moved)
