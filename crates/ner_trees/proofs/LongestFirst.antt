-- What the steps of a displacement add up to.
use Rattle.ner_trees.proofs.Common.{Dir, Disp, East, List, North, NorthEast, Run, South, SouthWest, West, [], ap, arith, back, cases_Bool, cond, cond-false, cond-true, count_by, flat_map, forth, inl}
use Rattle.ner_trees.proofs.Common.{inr, ints, is_ahead, is_back, leb, length, length_of, link_run_of, longest_first, max, median, min, neg_ℤ, negsuc, opposite_of, pos, put_run, refl, run_links, suc}
use Rattle.ner_trees.proofs.Common.{sum_by, sum_by-append, sum_by-cons, sum_by-replicate, sum_of, x_step, y_step, ℕ, ℤ, ◌*◌, ◌+◌, ◌-ℤ◌, ◌-◌, ◌∙◌, ◌∷◌, ◌≡◌, ◌⊎◌}
use Rattle.ner_trees.specs.LongestFirst.{ldf_of}
use Rattle.ner_trees.proofs.Signed.{length_is, less_median, less_median_second, minus_median}

-- a run weighs the same wherever it is put
sum-put : (w : Dir → ℕ) (r : Run) (rs : List Run) → sum_by w (flat_map run_links (put_run r rs)) ≡ sum_by w (run_links r) + sum_by w (flat_map run_links rs)
sum-put w r [] = sum_by-append w (run_links r) []
sum-put w r (s ∷ rs) = elim (cases_Bool (leb s.count r.count)) [
  | inl fits ↦
      ap (λ qs. sum_by w (flat_map run_links qs)) (cond-true (leb s.count r.count) (r ∷ s ∷ rs) (s ∷ put_run r rs) fits)
      ∙ sum_by-append w (run_links r) (flat_map run_links (s ∷ rs))
  | inr past ↦
      let more : sum_by w (flat_map run_links (put_run r rs)) ≡ sum_by w (run_links r) + sum_by w (flat_map run_links rs) = sum-put w r rs in
      let mine : sum_by w (flat_map run_links (s ∷ put_run r rs)) ≡ sum_by w (run_links s) + sum_by w (flat_map run_links (put_run r rs)) =
      sum_by-append w (run_links s) (flat_map run_links (put_run r rs)) in
      let other : sum_by w (flat_map run_links (s ∷ rs)) ≡ sum_by w (run_links s) + sum_by w (flat_map run_links rs) = sum_by-append w (run_links s) (flat_map run_links rs) in
      ap (λ qs. sum_by w (flat_map run_links qs)) (cond-false (leb s.count r.count) (r ∷ s ∷ rs) (s ∷ put_run r rs) past) ∙ (omega arith)
]

pub sum-longest_first : (w : Dir → ℕ) (rs : List Run) → sum_by w (flat_map run_links (longest_first rs)) ≡ sum_by w (flat_map run_links rs)
sum-longest_first w [] = refl
sum-longest_first w (r ∷ rs) = grind (arith, sum-put w r (longest_first rs), sum-longest_first w rs, sum_by-append w (run_links r) (flat_map run_links rs))

-- how much the steps along one dimension weigh, of which the forward or the backward ones are none
run_weighs : (w : Dir → ℕ) (d : Dir) (z : ℤ) → sum_by w (run_links (link_run_of d z)) ≡ forth z * w d + back z * w (opposite_of d)
run_weighs w d z = grind (arith, sum_by-replicate)

-- the three numbers of steps of a displacement
abbrev pub x_of : Disp → ℤ
x_of d = d.a -ℤ median d.a d.b (pos 0)

abbrev pub y_of : Disp → ℤ
y_of d = d.b -ℤ median d.a d.b (pos 0)

abbrev pub z_of : Disp → ℤ
z_of d = neg_ℤ (median d.a d.b (pos 0))

pub ldf_weighs : (w : Dir → ℕ) (d : Disp) → sum_by w (ldf_of d) ≡
    (forth (x_of d) * w East + back (x_of d) * w West) + ((forth (y_of d) * w North + back (y_of d) * w South) + (forth (z_of d) * w SouthWest + back (z_of d) * w NorthEast))
unfolding ldf_of
ldf_weighs w d = grind (arith, sum-longest_first, sum_by-append, run_weighs)

-- what is above and below 0 of a difference
less_parts : (z : ℤ) (m n : ℕ) → z ≡ pos m -ℤ pos n → (forth z ≡ m - n) × (back z ≡ n - m)
less_parts z m n e = grind (arith, ints)

-- what the six numbers of steps come to
pub record Counts (d : Disp) : Type 0 where
  pub ahead : forth (x_of d) + back (z_of d) ≡ forth d.a
  pub behind : back (x_of d) + forth (z_of d) ≡ back d.a
  pub above : forth (y_of d) + back (z_of d) ≡ forth d.b
  pub below : back (y_of d) + forth (z_of d) ≡ back d.b
  pub all : (forth (x_of d) + back (x_of d)) + ((forth (y_of d) + back (y_of d)) + (forth (z_of d) + back (z_of d))) ≡ max (forth d.a) (forth d.b) + max (back d.a) (back d.b)

pub one_sided : (z : ℤ) → (forth z ≡ 0) ⊎ (back z ≡ 0)
one_sided z = grind arith

one_way : (e w n s : ℕ) → (e ≡ 0) ⊎ (w ≡ 0) → (n ≡ 0) ⊎ (s ≡ 0) → ((e + min w s) - (w + min e n)) + (min e n - min w s) ≡ e
one_way e w n s p q = omega arith

other_way : (e w n s : ℕ) → (e ≡ 0) ⊎ (w ≡ 0) → (n ≡ 0) ⊎ (s ≡ 0) → ((w + min e n) - (e + min w s)) + (min w s - min e n) ≡ w
other_way e w n s p q = omega arith

up_way : (e w n s : ℕ) → (e ≡ 0) ⊎ (w ≡ 0) → (n ≡ 0) ⊎ (s ≡ 0) → ((n + min w s) - (s + min e n)) + (min e n - min w s) ≡ n
up_way e w n s p q = omega arith

down_way : (e w n s : ℕ) → (e ≡ 0) ⊎ (w ≡ 0) → (n ≡ 0) ⊎ (s ≡ 0) → ((s + min e n) - (n + min w s)) + (min w s - min e n) ≡ s
down_way e w n s p q = omega arith

all_ways : (e w n s fx bx fy by fz bz : ℕ) → (e ≡ 0) ⊎ (w ≡ 0) → (n ≡ 0) ⊎ (s ≡ 0) → fx + bz ≡ e → bx + fz ≡ w → fy + bz ≡ n → by + fz ≡ s →
    fz ≡ min w s - min e n → bz ≡ min e n - min w s → (fx + bx) + ((fy + by) + (fz + bz)) ≡ max e n + max w s
all_ways e w n s fx bx fy by fz bz p q a b c d z y = omega arith

pub counts : (d : Disp) → Counts d
counts d =
    let e : ℕ = forth d.a in
    let w : ℕ = back d.a in
    let n : ℕ = forth d.b in
    let s : ℕ = back d.b in
    let one = one_sided d.a in
    let two = one_sided d.b in
    let x = less_parts (x_of d) (e + min w s) (w + min e n) (less_median d.a d.b) in
    let y = less_parts (y_of d) (n + min w s) (s + min e n) (less_median_second d.a d.b) in
    let z = less_parts (z_of d) (min w s) (min e n) (minus_median d.a d.b) in
    let ahead : forth (x_of d) + back (z_of d) ≡ e = rw (x.0, z.1) (one_way e w n s one two) in
    let behind : back (x_of d) + forth (z_of d) ≡ w = rw (x.1, z.0) (other_way e w n s one two) in
    let above : forth (y_of d) + back (z_of d) ≡ n = rw (y.0, z.1) (up_way e w n s one two) in
    let below : back (y_of d) + forth (z_of d) ≡ s = rw (y.1, z.0) (down_way e w n s one two) in
    record {
      ahead = ahead;
      behind = behind;
      above = above;
      below = below;
      all = all_ways e w n s (forth (x_of d)) (back (x_of d)) (forth (y_of d)) (back (y_of d)) (forth (z_of d)) (back (z_of d)) one two ahead behind above below z.0 z.1;
    }

length-put_run : (r : Run) (rs : List Run) → length (put_run r rs) ≡ suc (length rs)
length-put_run r [] = refl
length-put_run r (s ∷ rs) = grind (arith, cases_Bool (leb s.count r.count), length-put_run r rs, cond-true, cond-false)

pub length-longest_first : (rs : List Run) → length (longest_first rs) ≡ length rs
length-longest_first [] = refl
length-longest_first (r ∷ rs) = length-put_run r (longest_first rs) ∙ ap suc (length-longest_first rs)

sum_of_ones : (ds : List Dir) → sum_by (λ _. 1) ds ≡ length ds
sum_of_ones [] = refl
sum_of_ones (d ∷ ds) = sum_by-cons (λ _. 1) d ds ∙ (ap (λ k. 1 + k) (sum_of_ones ds) ∙ omega arith)

pub ldf_length : (d : Disp) → length (ldf_of d) ≡ length_of d
ldf_length d = grind (arith, counts d, length_is d, sum_of_ones (ldf_of d), ldf_weighs)

-- so many steps lead ahead and back along each axis
pub ldf_ahead : (d : Disp) → count_by (λ e. is_ahead (x_step e)) (ldf_of d) ≡ forth d.a
ldf_ahead d = omega (arith, ldf_weighs (λ e. cond (is_ahead (x_step e)) 1 0) d, (counts d).ahead)

pub ldf_behind : (d : Disp) → count_by (λ e. is_back (x_step e)) (ldf_of d) ≡ back d.a
ldf_behind d = omega (arith, ldf_weighs (λ e. cond (is_back (x_step e)) 1 0) d, (counts d).behind)

pub ldf_above : (d : Disp) → count_by (λ e. is_ahead (y_step e)) (ldf_of d) ≡ forth d.b
ldf_above d = omega (arith, ldf_weighs (λ e. cond (is_ahead (y_step e)) 1 0) d, (counts d).above)

pub ldf_below : (d : Disp) → count_by (λ e. is_back (y_step e)) (ldf_of d) ≡ back d.b
ldf_below d = omega (arith, ldf_weighs (λ e. cond (is_back (y_step e)) 1 0) d, (counts d).below)

signed_is : (z : ℤ) → pos (forth z) -ℤ pos (back z) ≡ z
signed_is z = grind (arith, ints)

pub ldf_sum : (d : Disp) → sum_of (ldf_of d) ≡ d
ldf_sum d = grind (arith, ldf_ahead d, ldf_behind d, signed_is d.a, ldf_above d, ldf_below d, signed_is d.b)
