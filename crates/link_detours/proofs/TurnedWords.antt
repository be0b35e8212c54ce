-- Words turned by one bit, and the coordinates to which links lead.
use Rattle.link_detours.proofs.Common.{Ahead, Back, Bool, Some, add-mod_right, add-one, add-zero, ap, arith, bit_and, bit_at, bit_at-lt, bit_at-suc, bit_at-zero, bit_at_above, bit_at_and}
use Rattle.link_detours.proofs.Common.{bit_at_cat_high, bit_at_cat_low, bit_at_ones, bit_at_ones_above, bit_at_or, bit_or, cases_eq, cases_lt, cond-false, cond-true, div-add-mod', eq-eqb, false}
use Rattle.link_detours.proofs.Common.{le-ltb, lit<, lt-ltb, mod-eq_of_lt, mod_self, ne_eqb, pow_pos, stepped, sym, true, ℕ, ◌%◌, ◌*◌, ◌+◌, ◌-◌, ◌/◌, ◌<◌, ◌^◌, ◌∙◌, ◌≡◌, ◌≤◌, ◌⊎◌}

-- the low bits of a number are those of its remainder
bit_at-mod : (n w i : ℕ) → i < w → bit_at (n % 2 ^ w) i ≡ bit_at n i
bit_at-mod n w i h = sym (bit_at_cat_low (n / 2 ^ w) w (n % 2 ^ w) i h) ∙ ap (λ k. bit_at k i) (div-add-mod' n (2 ^ w))

-- the bits of a number that is moved up
moved_low : (a k i : ℕ) → i < k → bit_at (a * 2 ^ k) i ≡ 0
moved_low a k i h = ap (λ n. bit_at n i) (sym (add-zero (a * 2 ^ k))) ∙ (bit_at_cat_low a k 0 i h ∙ bit_at-zero i)

moved_high : (a k i : ℕ) → k ≤ i → bit_at (a * 2 ^ k) i ≡ bit_at a (i - k)
moved_high a k i h = ap (λ n. bit_at n i) (sym (add-zero (a * 2 ^ k))) ∙ bit_at_cat_high a k 0 i (pow_pos k) h

abbrev pub up_word : ℕ → ℕ → ℕ → ℕ
up_word top word rest = bit_or (bit_and (word / 2 ^ 1) (top - 1)) (bit_and word 1 * 2 ^ rest % 2 ^ 64)

pub up_inside : (top word rest y : ℕ) → rest < 64 → top ≡ 2 ^ rest → y < rest → bit_at (up_word top word rest) y ≡ bit_at word (y + 1)
up_inside top word rest y few is below =
    let moved : bit_at (word / 2 ^ 1) y ≡ bit_at word (y + 1) = sym (bit_at-suc word y) ∙ ap (λ k. bit_at word k) (sym (add-one y)) in
    let kept : bit_at (top - 1) y ≡ 1 = ap (λ t. bit_at (t - 1) y) is ∙ bit_at_ones rest y below in
    let clear : bit_at (bit_and word 1 * 2 ^ rest % 2 ^ 64) y ≡ 0 =
    bit_at-mod (bit_and word 1 * 2 ^ rest) 64 y (omega (arith, few, below)) ∙ moved_low (bit_and word 1) rest y below in
    omega (arith, bit_at_or (bit_and (word / 2 ^ 1) (top - 1)) (bit_and word 1 * 2 ^ rest % 2 ^ 64) y, bit_at_and (word / 2 ^ 1) (top - 1) y, bit_at-lt (word / 2 ^ 1) y)

pub up_round : (top word rest y : ℕ) → rest < 64 → top ≡ 2 ^ rest → y ≡ rest → bit_at (up_word top word rest) y ≡ bit_at word 0
up_round top word rest y few is at =
    let clear : bit_at (top - 1) y ≡ 0 = ap (λ t. bit_at (t - 1) y) is ∙ bit_at_ones_above rest y (omega (arith, at)) in
    let none : y - rest ≡ 0 = omega (arith, at) in
    let moved : bit_at (bit_and word 1 * 2 ^ rest % 2 ^ 64) y ≡ bit_at (bit_and word 1) 0 =
    bit_at-mod (bit_and word 1 * 2 ^ rest) 64 y (omega (arith, few, at)) ∙ (moved_high (bit_and word 1) rest y (omega (arith, at)) ∙ ap (λ k. bit_at (bit_and word 1) k) none) in
    omega (arith, bit_at_or (bit_and (word / 2 ^ 1) (top - 1)) (bit_and word 1 * 2 ^ rest % 2 ^ 64) y, bit_at_and (word / 2 ^ 1) (top - 1) y, bit_at_and word 1 0, bit_at-lt word 0)

abbrev pub down_word : ℕ → ℕ → ℕ
down_word word rest = bit_or (word * 2 ^ 1 % 2 ^ 64) (bit_and (word / 2 ^ rest) 1)

pub down_inside : (word rest y : ℕ) → 0 < y → y < 64 → bit_at (down_word word rest) y ≡ bit_at word (y - 1)
down_inside word rest y some few =
    let moved : bit_at (word * 2 ^ 1 % 2 ^ 64) y ≡ bit_at word (y - 1) = bit_at-mod (word * 2 ^ 1) 64 y few ∙ moved_high word 1 y (omega (arith, some)) in
    let clear : bit_at 1 y ≡ 0 = bit_at_above 1 1 y (lit< tt) (omega (arith, some)) in
    omega (arith, bit_at_or (word * 2 ^ 1 % 2 ^ 64) (bit_and (word / 2 ^ rest) 1) y, bit_at_and (word / 2 ^ rest) 1 y)

pub down_round : (word rest : ℕ) → bit_at (down_word word rest) 0 ≡ bit_at word rest
down_round word rest =
    omega (arith, bit_at_or (word * 2 ^ 1 % 2 ^ 64) (bit_and (word / 2 ^ rest) 1) 0, bit_at_and (word / 2 ^ rest) 1 0, bit_at-lt (word / 2 ^ rest) 0)

-- where a step ahead leads
pub ahead_cases : (wrap : Bool) (places n k : ℕ) → n < places → stepped wrap places Ahead n ≡ Some k →
    ((n + 1 < places) × (k ≡ n + 1)) ⊎ ((n + 1 ≡ places) × (k ≡ 0))
ahead_cases wrap places n k within leads = grind (arith, cases_lt, mod_self, mod-eq_of_lt, cond-true, lt-ltb, cond-false, le-ltb)

-- and a step back
pub back_cases : (wrap : Bool) (places n k : ℕ) → n < places → stepped wrap places Back n ≡ Some k →
    ((0 < n) × (k ≡ n - 1)) ⊎ ((n ≡ 0) × (k ≡ places - 1))
back_cases true places n k within leads = grind (arith, cases_eq n 0, add-mod_right (n - 1) places, mod-eq_of_lt)
back_cases false places n k within leads = grind (arith, cases_eq n 0, cond-true, eq-eqb, cond-false, ne_eqb)

-- a word turned so that its bits are of the coordinates to which a step leads
pub turned_ahead : (word result places : ℕ) → ((y : ℕ) → y + 1 < places → bit_at result y ≡ bit_at word (y + 1)) →
    ((y : ℕ) → y + 1 ≡ places → bit_at result y ≡ bit_at word 0) → (wrap : Bool) (y k : ℕ) → y < places →
    stepped wrap places Ahead y ≡ Some k → bit_at result y ≡ bit_at word k
turned_ahead word result places inside round wrap y k within leads = grind (arith, ahead_cases wrap places y k within leads)

pub turned_back : (word result places : ℕ) → ((y : ℕ) → 0 < y → y < places → bit_at result y ≡ bit_at word (y - 1)) →
    bit_at result 0 ≡ bit_at word (places - 1) → (wrap : Bool) (y k : ℕ) → y < places →
    stepped wrap places Back y ≡ Some k → bit_at result y ≡ bit_at word k
turned_back word result places inside round wrap y k within leads = grind (arith, back_cases wrap places y k within leads)
