-- A step along an axis of the grid, and the step back.
use Rattle.machine_desc.proofs.Common.{Ahead, Back, Bool, Dir, None, Some, Stay, Step, add-mod_right, ap, arith, cases_eq, cases_lt, cond, cond-false, cond-true, eq-eqb, le-ltb, lt-ltb, mod-eq_of_lt}
use Rattle.machine_desc.proofs.Common.{mod_self, ne_eqb, opposite_of, stepped, x_step, y_step, ℕ, ◌%◌, ◌+◌, ◌-◌, ◌<◌, ◌∙◌, ◌≡◌}

pub turned : Step → Step
turned Back = Ahead
turned Stay = Stay
turned Ahead = Back

pub x_step-opposite : (d : Dir) → x_step (opposite_of d) ≡ turned (x_step d)
unfolding turned
x_step-opposite d = grind arith

pub y_step-opposite : (d : Dir) → y_step (opposite_of d) ≡ turned (y_step d)
unfolding turned
y_step-opposite d = grind arith

-- the place after the last is the first
ahead_inside : (n w : ℕ) → n + 1 < w → (n + 1) % w ≡ n + 1
ahead_inside n w h = mod-eq_of_lt h

ahead_last : (n w : ℕ) → n + 1 ≡ w → (n + 1) % w ≡ 0
ahead_last n w e = ap (λ k. k % w) e ∙ mod_self w

back_first : (w : ℕ) → 0 < w → (0 + (w - 1)) % w ≡ w - 1
back_first w h = let below : 0 + (w - 1) < w = omega arith in mod-eq_of_lt below ∙ omega arith

back_inside : (n w : ℕ) → 0 < n → n < w → (n + (w - 1)) % w ≡ n - 1
back_inside n w p h = grind (arith, add-mod_right, mod-eq_of_lt)

back_after_ahead : (n w : ℕ) → n < w → ((n + 1) % w + (w - 1)) % w ≡ n
back_after_ahead n w h = grind (arith, cases_lt, ahead_inside, back_inside, ahead_last, back_first)

ahead_after_back : (n w : ℕ) → n < w → ((n + (w - 1)) % w + 1) % w ≡ n
ahead_after_back n w h = grind (arith, cases_eq, back_first, ahead_last, back_inside, ahead_inside)

-- A step that leads from n inside to k leads inside, and the step the other way leads from k back to n.
pub stepped_back : (wrap : Bool) (w : ℕ) (s : Step) (n k : ℕ) → n < w → stepped wrap w s n ≡ Some k → stepped wrap w (turned s) k ≡ Some n
unfolding turned
stepped_back wrap w s n k h e = grind (arith, back_after_ahead, ahead_after_back, cases_lt, cond-true, cond-false, le-ltb, ne_eqb, lt-ltb, cases_eq, eq-eqb)

pub stepped_inside : (wrap : Bool) (w : ℕ) (s : Step) (n k : ℕ) → n < w → stepped wrap w s n ≡ Some k → k < w
stepped_inside wrap w s n k h e = grind (arith, cases_lt, cond-true, lt-ltb, cond-false, le-ltb, cases_eq, eq-eqb, ne_eqb)

-- what the code of a step computes, by cases
pub stepped_ahead_inside : (wrap : Bool) (n w : ℕ) → n + 1 < w → stepped wrap w Ahead n ≡ Some (n + 1)
stepped_ahead_inside wrap n w h = grind (arith, ahead_inside, cond-true, lt-ltb)

pub stepped_back_first : (wrap : Bool) (n w : ℕ) → n < w → n ≡ 0 → stepped wrap w Back n ≡ cond wrap (Some (w - 1)) None
stepped_back_first wrap n w h k = grind (arith, back_first, cond-true, eq-eqb)
