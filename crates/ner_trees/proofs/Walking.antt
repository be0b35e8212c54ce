-- The walk between two chips goes one way along each axis, and arrives.
use Rattle.std.proofs.Common.{rules}
use Rattle.ner_trees.proofs.Common.{Ahead, Back, Bool, Chip, Description, Dir, Disp, East, HasSize, IsInside, List, North, NorthEast, Some, South, SouthWest, Stay, Step, West, [], ahead_by, ap, arith}
use Rattle.ner_trees.proofs.Common.{back, cases_Bool, chip_eq, chip_eq_true, cond, cond-false, cond-true, count_by, disp, end_of_walk, false, far_from, far_of, forth, inl, inr, inside_from}
use Rattle.ner_trees.proofs.Common.{inside_parts, ints, is_ahead, is_back, ldf_of, negsuc, next_of, not, on_torus, or_stay, pos, refl, same_chip, subst, sum_by-cons, sym, true, true≢false, x_step}
use Rattle.ner_trees.proofs.Common.{y_step, ℕ, ℤ, ◌+◌, ◌-ℤ◌, ◌<◌, ◌∙◌, ◌∷◌, ◌≡◌, ◌⊎◌}
use Rattle.ner_trees.specs.Geometry.{displacement_of}
use Rattle.ner_trees.proofs.{Axis.ahead_cases, Axis.ahead_below, Axis.way, Axis.goes, Axis.gap, Axis.IsStraight, Axis.Reaches, Axis.gap_start, Axis.gap_same, Axis.moves_on, LongestFirst.ldf_ahead}
use Rattle.ner_trees.proofs.{LongestFirst.ldf_behind, LongestFirst.ldf_above, LongestFirst.ldf_below, Torus.AheadOrBack, Torus.torus_ways, Trees.Rises, Trees.Walks}

-- what a displacement on a ring, or on an open axis, says of the places
reach_ring : (w p q : ℕ) (z : ℤ) → p < w → q < w → AheadOrBack w (ahead_by w p q) z → Reaches true w p q z
reach_ring w p q z pw qw its_6 = grind (arith, Reaches, true≢false, ahead_below, ints, ahead_cases)

reach_line : (w p q : ℕ) (z : ℤ) → p < w → q < w → z ≡ pos q -ℤ pos p → Reaches false w p q z
reach_line w p q z pw qw is = grind (arith, ints, ahead_cases)

-- The displacement between two chips of a machine leads from one to the other along each axis.
pub reaches : (m : Description) (p q : Chip) → HasSize m → IsInside m p → IsInside m q →
    Reaches m.wrap m.width p.x q.x (displacement_of m p q).a × Reaches m.wrap m.height p.y q.y (displacement_of m p q).b
unfolding displacement_of
reaches m p q size p_in q_in = search (rules, Reaches, inside_parts, cases_Bool, torus_ways, ahead_below, cond-true, reach_ring, cond-false, reach_line)

abbrev pub one_if : Bool → ℕ
one_if b = cond b 1 0

-- each link leads along some axis
some_step : (d : Dir) → (x_step d ≡ Stay) → (y_step d ≡ Stay) → ⊥
some_step d x y = grind (arith, true≢false)

step_goes : (b : Bool) (s : Step) → goes (not b) s ≡ false → (s ≡ Stay) ⊎ (goes b s ≡ true)
step_goes b s against = grind (arith, true≢false, against)

one_goes : (bx by : Bool) (d : Dir) → goes (not bx) (x_step d) ≡ false → goes (not by) (y_step d) ≡ false →
    0 < one_if (goes bx (x_step d)) + one_if (goes by (y_step d))
one_goes bx by d x y = grind (arith, step_goes bx (x_step d) x, goes bx (x_step d), step_goes by (y_step d) y, goes by (y_step d), cond-true, some_step)

-- the first of steps none of which passes a test, and the rest
none_first : (p : Dir → Bool) (d : Dir) (ds : List Dir) → count_by p (d ∷ ds) ≡ 0 → (p d ≡ false) × (count_by p ds ≡ 0)
none_first p d ds none = elim (cases_Bool (p d)) [
  | inl yes' ↦
      let one : one_if (p d) ≡ 1 = cond-true (p d) 1 0 yes' in
      let all : count_by p (d ∷ ds) ≡ one_if (p d) + count_by p ds = sum_by-cons (λ e. one_if (p e)) d ds in
      absurd (omega arith)
  | inr no' ↦
      let one : one_if (p d) ≡ 0 = cond-false (p d) 1 0 no' in
      let all : count_by p (d ∷ ds) ≡ one_if (p d) + count_by p ds = sum_by-cons (λ e. one_if (p e)) d ds in
      (no', omega arith)
]

module _ (m : Description) (p q : Chip) (p_in : IsInside m p) (q_in : IsInside m q) (bx by : Bool) (sx : m.wrap ≡ false → IsStraight bx p.x q.x)
    (sy : m.wrap ≡ false → IsStraight by p.y q.y) where
  pub rising : (ds : List Dir) (c : Chip) → IsInside m c → count_by (λ d. goes (not bx) (x_step d)) ds ≡ 0 → count_by (λ d. goes (not by) (y_step d)) ds ≡ 0 →
      gap bx m.width p.x c.x + count_by (λ d. goes bx (x_step d)) ds ≡ gap bx m.width p.x q.x →
      gap by m.height p.y c.y + count_by (λ d. goes by (y_step d)) ds ≡ gap by m.height p.y q.y →
      Rises m (λ e. gap bx m.width p.x e.x + gap by m.height p.y e.y) c ds × (end_of_walk m c ds ≡ q)
  rising [] c c_in none_x none_y left_x left_y = grind (arith, inside_parts, gap, same_chip, gap_same)
  rising (d ∷ ds) c c_in none_x none_y left_x left_y =
      let pa = inside_parts m p p_in in
      let qa = inside_parts m q q_in in
      let ca = inside_parts m c c_in in
      let nx = none_first (λ d. goes (not bx) (x_step d)) d ds none_x in
      let ny = none_first (λ d. goes (not by) (y_step d)) d ds none_y in
      let cx : count_by (λ d. goes bx (x_step d)) (d ∷ ds) ≡ one_if (goes bx (x_step d)) + count_by (λ d. goes bx (x_step d)) ds =
      sum_by-cons (λ e. one_if (goes bx (x_step e))) d ds in
      let cy : count_by (λ d. goes by (y_step d)) (d ∷ ds) ≡ one_if (goes by (y_step d)) + count_by (λ d. goes by (y_step d)) ds =
      sum_by-cons (λ e. one_if (goes by (y_step e))) d ds in
      let room_x : goes bx (x_step d) ≡ true → gap bx m.width p.x c.x < gap bx m.width p.x q.x =
      λ g. (let one : one_if (goes bx (x_step d)) ≡ 1 = cond-true (goes bx (x_step d)) 1 0 g in omega (arith, one, cx, left_x)) in
      let room_y : goes by (y_step d) ≡ true → gap by m.height p.y c.y < gap by m.height p.y q.y =
      λ g. (let one : one_if (goes by (y_step d)) ≡ 1 = cond-true (goes by (y_step d)) 1 0 g in omega (arith, one, cy, left_y)) in
      let mx = moves_on m.wrap bx m.width p.x q.x c.x (x_step d) pa.0 qa.0 ca.0 sx nx.0 room_x in
      let my = moves_on m.wrap by m.height p.y q.y c.y (y_step d) pa.1 qa.1 ca.1 sy ny.0 room_y in
      let e : Chip = record { x = mx.0; y = my.0 } in
      let e_in : IsInside m e = inside_from m e mx.2 my.2 in
      let gx : gap bx m.width p.x e.x ≡ gap bx m.width p.x c.x + one_if (goes bx (x_step d)) = mx.3 in
      let gy : gap by m.height p.y e.y ≡ gap by m.height p.y c.y + one_if (goes by (y_step d)) = my.3 in
      let some : 0 < one_if (goes bx (x_step d)) + one_if (goes by (y_step d)) = one_goes bx by d nx.0 ny.0 in
      let rise : gap bx m.width p.x c.x + gap by m.height p.y c.y < gap bx m.width p.x e.x + gap by m.height p.y e.y = (omega (arith, gx, gy, some)) in
      let other : chip_eq c e ≡ false = differ c e rise in
      let far : far_of m c d ≡ Some e = far_from m c e d mx.1 my.1 other in
      let next : next_of m c d ≡ e = ap (or_stay c) far in
      let lx : gap bx m.width p.x e.x + count_by (λ d. goes bx (x_step d)) ds ≡ gap bx m.width p.x q.x = (omega (arith, gx, cx, left_x)) in
      let ly : gap by m.height p.y e.y + count_by (λ d. goes by (y_step d)) ds ≡ gap by m.height p.y q.y = (omega (arith, gy, cy, left_y)) in
      let rest = rising ds e e_in nx.1 ny.1 lx ly in
      subst (λ (f : Chip). ((far_of m c d ≡ Some f) × (gap bx m.width p.x c.x + gap by m.height p.y c.y < gap bx m.width p.x f.x + gap by m.height p.y f.y) ×
      Rises m (λ e. gap bx m.width p.x e.x + gap by m.height p.y e.y) f ds) × (end_of_walk m f ds ≡ q)) (sym next) ((far, rise, rest.0), rest.1)
    where
      differ : (c e : Chip) → gap bx m.width p.x c.x + gap by m.height p.y c.y < gap bx m.width p.x e.x + gap by m.height p.y e.y → chip_eq c e ≡ false
      differ c e less = grind (arith, cases_Bool (chip_eq c e), gap bx m.width p.x c.x, gap by m.height p.y c.y, gap bx m.width p.x e.x, gap by m.height p.y e.y, chip_eq_true)

-- of a number, what leads its way and what leads against it
against : (z : ℤ) (f b : ℕ) → f ≡ forth z → b ≡ back z → (cond (way z) b f ≡ 0) × (cond (way z) f b ≡ forth z + back z)
against z f b ef eb = grind arith

count_goes : (b : Bool) (step : Dir → Step) (ds : List Dir) → count_by (λ d. goes b (step d)) ds ≡ cond b (count_by (λ d. is_ahead (step d)) ds) (count_by (λ d. is_back (step d)) ds)
count_goes b step ds = grind arith

not_cond : (b : Bool) (x y : ℕ) → cond (not b) x y ≡ cond b y x
not_cond b x y = grind arith

-- The walk of `ldf` from one chip to another leads over the grid, never twice to one chip, and arrives.
pub ldf_walks : (m : Description) (p q : Chip) → HasSize m → IsInside m p → IsInside m q → Walks m p q
ldf_walks m p q size p_in q_in =
    let d : Disp = displacement_of m p q in
    let ds : List Dir = ldf_of d in
    let reach = reaches m p q size p_in q_in in
    let x = against d.a (count_by (λ e. is_ahead (x_step e)) ds) (count_by (λ e. is_back (x_step e)) ds) (ldf_ahead d) (ldf_behind d) in
    let y = against d.b (count_by (λ e. is_ahead (y_step e)) ds) (count_by (λ e. is_back (y_step e)) ds) (ldf_above d) (ldf_below d) in
    let pa = inside_parts m p p_in in
    let none_x : count_by (λ e. goes (not (way d.a)) (x_step e)) ds ≡ 0 = count_goes (not (way d.a)) x_step ds ∙ (not_cond (way d.a) _ _ ∙ x.0) in
    let none_y : count_by (λ e. goes (not (way d.b)) (y_step e)) ds ≡ 0 = count_goes (not (way d.b)) y_step ds ∙ (not_cond (way d.b) _ _ ∙ y.0) in
    let all_x : count_by (λ e. goes (way d.a) (x_step e)) ds ≡ gap (way d.a) m.width p.x q.x = count_goes (way d.a) x_step ds ∙ (x.1 ∙ sym reach.0.far) in
    let all_y : count_by (λ e. goes (way d.b) (y_step e)) ds ≡ gap (way d.b) m.height p.y q.y = count_goes (way d.b) y_step ds ∙ (y.1 ∙ sym reach.1.far) in
    let start_x : gap (way d.a) m.width p.x p.x ≡ 0 = gap_start (way d.a) m.width p.x pa.0 in
    let start_y : gap (way d.b) m.height p.y p.y ≡ 0 = gap_start (way d.b) m.height p.y pa.1 in
    let left_x : gap (way d.a) m.width p.x p.x + count_by (λ e. goes (way d.a) (x_step e)) ds ≡ gap (way d.a) m.width p.x q.x = sums _ _ _ start_x all_x in
    let left_y : gap (way d.b) m.height p.y p.y + count_by (λ e. goes (way d.b) (y_step e)) ds ≡ gap (way d.b) m.height p.y q.y = sums _ _ _ start_y all_y in
    let known = rising m p q p_in q_in (way d.a) (way d.b) reach.0.straight reach.1.straight ds p p_in none_x none_y left_x left_y in
    record { rank = λ e. gap (way d.a) m.width p.x e.x + gap (way d.b) m.height p.y e.y; rises = known.0; arrives = known.1 }
  where
    sums : (a b c : ℕ) → a ≡ 0 → b ≡ c → a + b ≡ c
    sums a b c p q = omega arith
