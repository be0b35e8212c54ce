-- The displacement on a torus never leads all the way round.
use Rattle.ner_trees.proofs.Common.{Bool, Disp, IsSmall, ap, arith, back, cases_Bool, cases_eq, cond-false, cond-true, disp, eqb, eqb-false, eqb-true, false, first_differs, forth, inl, inr, ints}
use Rattle.ner_trees.proofs.Common.{is_before, length_of, lesser_disp, ltb-false, ltb-true, max, min, negsuc, pos, refl, subst, true, unsigned_abs, ℕ, ℤ, ◌*◌, ◌+◌, ◌-ℤ◌, ◌-◌, ◌<◌, ◌∙◌, ◌≡◌, ◌≤◌, ◌⊎◌}
use Rattle.ner_trees.specs.Geometry.{on_torus}
use Rattle.ner_trees.proofs.Signed.{length_is, abs_is}

-- the first three of the numbers by which displacements are put in order, as one
abbrev pub weight : Disp → ℕ
weight d = length_of d * 65536 + unsigned_abs d.a * 256 + unsigned_abs d.b

-- a displacement that comes before another is not heavier
differs_true : (m n : ℕ) (rest : Bool) → first_differs m n rest ≡ true → (m < n) ⊎ ((m ≡ n) × (rest ≡ true))
differs_true m n rest is = grind (arith, cases_Bool (eqb m n), eqb-true, cond-true, ltb-true, cond-false)

differs_false : (m n : ℕ) (rest : Bool) → first_differs m n rest ≡ false → (n < m) ⊎ ((m ≡ n) × (rest ≡ false))
differs_false m n rest is = grind (arith, cases_Bool (eqb m n), cases_eq m n, eqb-true, cond-true, ltb-false, cond-false, eqb-false)

heavier : (l k a b c d : ℕ) → a ≤ 64 → b ≤ 64 → c ≤ 64 → d ≤ 64 → (l < k) ⊎ ((l ≡ k) × ((a < c) ⊎ ((a ≡ c) × ((b < d) ⊎ (b ≡ d))))) →
    l * 65536 + a * 256 + b ≤ k * 65536 + c * 256 + d
heavier l k a b c d pa pb pc pd before = omega arith

before_true : (d e : Disp) → IsSmall d → IsSmall e → is_before d e ≡ true → weight d ≤ weight e
before_true d e sd se is = grind (arith, heavier, differs_true)

before_false : (d e : Disp) → IsSmall d → IsSmall e → is_before d e ≡ false → weight e ≤ weight d
before_false d e sd se is = grind (arith, heavier, differs_false)

-- the first of two is one of them, and neither is lighter
pub record Least (d e r : Disp) : Type 0 where
  pub which : (r ≡ d) ⊎ (r ≡ e)
  pub small : IsSmall r
  pub one : weight r ≤ weight d
  pub other : weight r ≤ weight e

pub least : (d e : Disp) → IsSmall d → IsSmall e → Least d e (lesser_disp d e)
least d e sd se = grind (arith, cases_Bool (is_before e d), cond-true, before_true, cond-false, before_false)

weight_is : (d : Disp) → weight d ≡ (max (forth d.a) (forth d.b) + max (back d.a) (back d.b)) * 65536 + (forth d.a + back d.a) * 256 + (forth d.b + back d.b)
weight_is d = grind (arith, length_is d, abs_is d.a, abs_is d.b)

-- the first of two in order is the shorter
shorter : (d e : Disp) → length_of (lesser_disp d e) ≡ min (length_of d) (length_of e)
shorter d e = grind (arith, cases_Bool (is_before e d), cond-true, differs_true, cond-false, differs_false)

-- to lead back all the way is heavier than to stay
round_a : (w : ℕ) (z y : ℤ) → 0 < w → forth z ≡ 0 → back z ≡ w → weight (disp (pos 0) y) < weight (disp z y)
round_a w z y some f b = grind (arith, weight_is)

round_b : (w : ℕ) (z y : ℤ) → 0 < w → forth z ≡ 0 → back z ≡ w → weight (disp y (pos 0)) < weight (disp y z)
round_b w z y some f b = grind (arith, weight_is)

-- a number less another that is greater
pub behind : (a w : ℕ) → a < w → (forth (pos a -ℤ pos w) ≡ 0) × (back (pos a -ℤ pos w) ≡ w - a)
behind a w less = grind (arith, ints)

-- the length of the displacement on a torus: the least of the lengths of the four
pub torus_length : (w h a b : ℕ) → a < w → b < h →
    length_of (on_torus w h a b) ≡ min (min (min (max a b) ((w - a) + b)) (a + (h - b))) (max (w - a) (h - b))
unfolding on_torus
torus_length w h a b aw bh =
    let x : ℤ = pos a -ℤ pos w in
    let y : ℤ = pos b -ℤ pos h in
    let bx = behind a w aw in
    let by = behind b h bh in
    let one : length_of (disp (pos a) (pos b)) ≡ max a b = length_is (disp (pos a) (pos b)) ∙ omega arith in
    let two : length_of (disp x (pos b)) ≡ (w - a) + b = length_is (disp x (pos b)) ∙ rw (bx.0, bx.1) (omega arith) in
    let three : length_of (disp (pos a) y) ≡ a + (h - b) = length_is (disp (pos a) y) ∙ rw (by.0, by.1) (omega arith) in
    let four : length_of (disp x y) ≡ max (w - a) (h - b) = length_is (disp x y) ∙ rw (bx.0, bx.1, by.0, by.1) (omega arith) in
    shorter (lesser_disp (lesser_disp (disp (pos a) (pos b)) (disp x (pos b))) (disp (pos a) y)) (disp x y)
    ∙ (ap (λ n. min n (length_of (disp x y))) (shorter (lesser_disp (disp (pos a) (pos b)) (disp x (pos b))) (disp (pos a) y)
    ∙ ap (λ n. min n (length_of (disp (pos a) y))) (shorter (disp (pos a) (pos b)) (disp x (pos b))))
    ∙ rw (one, two, three, four) refl)

-- along each axis the displacement leads ahead, or back by what is left where that is not the whole axis
abbrev pub AheadOrBack : ℕ → ℕ → ℤ → Type 0
AheadOrBack w a z = (z ≡ pos a) ⊎ ((z ≡ pos a -ℤ pos w) × (0 < a))

pub torus_ways : (w h a b : ℕ) → a < w → b < h → w ≤ 64 → h ≤ 64 → AheadOrBack w a (on_torus w h a b).a × AheadOrBack h b (on_torus w h a b).b
unfolding on_torus
torus_ways w h a b aw bh ws hs =
    let x : ℤ = pos a -ℤ pos w in
    let y : ℤ = pos b -ℤ pos h in
    let d1 : Disp = disp (pos a) (pos b) in
    let d2 : Disp = disp x (pos b) in
    let d3 : Disp = disp (pos a) y in
    let d4 : Disp = disp x y in
    let bx = behind a w aw in
    let by = behind b h bh in
    let sx : unsigned_abs x ≤ 64 = rw (abs_is x, bx.0, bx.1) (omega arith) in
    let sy : unsigned_abs y ≤ 64 = rw (abs_is y, by.0, by.1) (omega arith) in
    let sa : a ≤ 64 = omega arith in
    let sb : b ≤ 64 = omega arith in
    let r1 = least d1 d2 (sa, sb) (sx, sb) in
    let r2 = least (lesser_disp d1 d2) d3 r1.small (sa, sy) in
    let r3 = least (lesser_disp (lesser_disp d1 d2) d3) d4 r2.small (sx, sy) in
    ways (lesser_disp (lesser_disp (lesser_disp d1 d2) d3) d4)
    (elim r3.which [
      | inr four ↦ inr (inr (inr four))
      | inl three ↦ elim r2.which [
        | inr third ↦ inr (inr (inl (three ∙ third)))
        | inl two ↦ elim r1.which [
          | inr second ↦ inr (inl (three ∙ (two ∙ second)))
          | inl one ↦ inl (three ∙ (two ∙ one))
        ]
      ]
    ])
    (below r3.one (below r2.one r1.one)) (below r3.one (below r2.one r1.other)) (below r3.one r2.other)
  where
    below : {k l n : ℕ} → k ≤ l → l ≤ n → k ≤ n
    below p q = omega arith

    heavy_a : (y : ℤ) → a ≡ 0 → weight (disp (pos a -ℤ pos w) y) ≤ weight (disp (pos a) y) → ⊥
    heavy_a y none light = grind (arith, behind a w aw, round_a w (pos a -ℤ pos w) y (omega arith) (behind a w aw).0 ((behind a w aw).1 ∙ omega arith))

    heavy_b : (y : ℤ) → b ≡ 0 → weight (disp y (pos b -ℤ pos h)) ≤ weight (disp y (pos b)) → ⊥
    heavy_b y none light = grind (arith, behind b h bh, round_b h (pos b -ℤ pos h) y (omega arith) (behind b h bh).0 ((behind b h bh).1 ∙ omega arith))

    ways : (r : Disp) → (r ≡ disp (pos a) (pos b)) ⊎ ((r ≡ disp (pos a -ℤ pos w) (pos b)) ⊎ ((r ≡ disp (pos a) (pos b -ℤ pos h)) ⊎ (r ≡ disp (pos a -ℤ pos w) (pos b -ℤ pos h)))) →
        weight r ≤ weight (disp (pos a) (pos b)) → weight r ≤ weight (disp (pos a -ℤ pos w) (pos b)) → weight r ≤ weight (disp (pos a) (pos b -ℤ pos h)) →
        AheadOrBack w a r.a × AheadOrBack h b r.b
    ways r (inl one) p q s = (inl (ap (λ (d : Disp). d.a) one), inl (ap (λ (d : Disp). d.b) one))
    ways r (inr (inl two)) p q s = grind (arith, cases_eq a 0, heavy_a)
    ways r (inr (inr (inl three))) p q s = grind (arith, cases_eq b 0, heavy_b)
    ways r (inr (inr (inr four))) p q s = elim (cases_eq a 0) [
      | inl none ↦ absurd (heavy_a (pos b -ℤ pos h) none (subst (λ (d : Disp). weight d ≤ weight (disp (pos a) (pos b -ℤ pos h))) four s))
      | inr some ↦ elim (cases_eq b 0) [
        | inl none ↦ absurd (heavy_b (pos a -ℤ pos w) none (subst (λ (d : Disp). weight d ≤ weight (disp (pos a -ℤ pos w) (pos b))) four q))
        | inr more ↦ (inr (ap (λ (d : Disp). d.a) four, omega arith), inr (ap (λ (d : Disp). d.b) four, omega arith))
      ]
    ]
