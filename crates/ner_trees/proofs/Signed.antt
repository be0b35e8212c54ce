-- Signed numbers as what is above 0 and what is below.
use Rattle.ner_trees.proofs.Common.{Chip, Description, Disp, East, North, Run, SouthWest, [], ahead_by, arith, back, cond-false, cond-true, disp, distance_of, false, forth, int_max, int_min, ints}
use Rattle.ner_trees.proofs.Common.{length_of, lesser_disp, link_run_of, longest_first, max, median, min, neg_ℤ, negsuc, pos, refl, runs_of, true, unsigned_abs, ℕ, ℤ, ◌+◌, ◌-ℤ◌, ◌∷◌, ◌≡◌}
use Rattle.ner_trees.specs.Geometry.{displacement_of, on_torus}

pub length_is : (d : Disp) → length_of d ≡ max (forth d.a) (forth d.b) + max (back d.a) (back d.b)
length_is d = grind (arith, ints)

pub abs_is : (z : ℤ) → unsigned_abs z ≡ forth z + back z
abs_is z = grind arith

-- the median of a, b and 0, as what the two have in common
pub less_median : (a b : ℤ) → a -ℤ median a b (pos 0) ≡ pos (forth a + min (back a) (back b)) -ℤ pos (back a + min (forth a) (forth b))
less_median a b = grind (arith, ints)

pub less_median_second : (a b : ℤ) → b -ℤ median a b (pos 0) ≡ pos (forth b + min (back a) (back b)) -ℤ pos (back b + min (forth a) (forth b))
less_median_second a b = grind (arith, ints)

pub minus_median : (a b : ℤ) → neg_ℤ (median a b (pos 0)) ≡ pos (min (back a) (back b)) -ℤ pos (min (forth a) (forth b))
minus_median a b = grind (arith, ints)

-- what the four displacements on a torus come to
pub torus_steps : (w h a b : ℕ) (za zb zx zy : ℤ) (r s t : Disp) → za ≡ pos a → zb ≡ pos b → zx ≡ pos a -ℤ pos w → zy ≡ pos b -ℤ pos h →
    r ≡ lesser_disp (disp za zb) (disp zx zb) → s ≡ lesser_disp r (disp za zy) → t ≡ lesser_disp s (disp zx zy) → t ≡ on_torus w h a b
unfolding on_torus
torus_steps w h a b za zb zx zy r s t ea eb ex ey er es et = rw (et, es, er, ea, eb, ex, ey)

pub displaced_on_torus : (m : Description) (p q : Chip) (w h x y : ℕ) (r : Disp) → m.wrap ≡ true → w ≡ m.width → h ≡ m.height → x ≡ ahead_by w p.x q.x →
    y ≡ ahead_by h p.y q.y → r ≡ on_torus w h x y → r ≡ displacement_of m p q
unfolding displacement_of
displaced_on_torus m p q w h x y r wraps ew eh ex ey er = grind (arith, cond-true)

pub distant_on_torus : (m : Description) (p q : Chip) (w h x y r : ℕ) → m.wrap ≡ true → w ≡ m.width → h ≡ m.height → x ≡ ahead_by w p.x q.x →
    y ≡ ahead_by h p.y q.y → r ≡ length_of (on_torus w h x y) → r ≡ distance_of m p q
distant_on_torus m p q w h x y r wraps ew eh ex ey er = grind (arith, displaced_on_torus m p q w h x y (on_torus w h x y) wraps ew eh ex ey refl)

pub displaced_on_grid : (m : Description) (p q : Chip) (a b : ℤ) → m.wrap ≡ false → a ≡ pos q.x -ℤ pos p.x → b ≡ pos q.y -ℤ pos p.y →
    disp a b ≡ displacement_of m p q
unfolding displacement_of
displaced_on_grid m p q a b opens ea eb = grind (arith, cond-false)

-- the runs of a displacement, from what is above and below 0
pub runs_steps : (d : Disp) (a b : ℤ) (x y z : Run) (east west north south north_east south_west : ℕ) → a ≡ d.a → b ≡ d.b →
    east ≡ forth a → west ≡ back a → north ≡ forth b → south ≡ back b →
    north_east ≡ min east north → south_west ≡ min west south → x ≡ link_run_of East (pos (east + south_west) -ℤ pos (west + north_east)) →
    y ≡ link_run_of North (pos (north + south_west) -ℤ pos (south + north_east)) → z ≡ link_run_of SouthWest (pos south_west -ℤ pos north_east) →
    longest_first (x ∷ y ∷ z ∷ []) ≡ longest_first (runs_of d)
runs_steps d a b x y z east west north south north_east south_west ea eb e1 e2 e3 e4 e5 e6 ex ey ez = grind (arith, less_median d.a d.b, less_median_second d.a d.b, minus_median d.a d.b)
