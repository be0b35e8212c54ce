-- The search of a ring: what it has seen, and that it sees enough.
use Rattle.ner_trees.proofs.Common.{AtOffsets, AtStep, Bool, Chip, Description, Disp, HasSize, IfNone, IfSome, IsBetter, IsInside, IsNearestOn, IsNoneNearer, IsOnWithin, List, None, Option, Some}
use Rattle.ner_trees.proofs.Common.{ahead_by, ap, arith, back, cases_eq, cases_lt, chip_at, cond, cond-false, cond-true, displacement_of, distance_of, false, forth, inl, inr, is_on, is_there, le-ltb}
use Rattle.ner_trees.proofs.Common.{lt-ltb, ltb, max, mod-mul-add, negsuc, or_left, or_right, place_at, pos, refl, subst, suc, sym, true, ℕ, ℤ, ◌%◌, ◌*◌, ◌+◌, ◌-◌, ◌<◌, ◌||◌, ◌∙◌, ◌≡◌, ◌≤◌, ◌⊎◌}
use Rattle.ner_trees.specs.Search.{offset_chip}
use Rattle.ner_trees.proofs.{Axis.ahead_cases, Axis.Reaches, LongestFirst.one_sided, Signed.length_is, Walking.reaches}

offset_is : (m : Description) (t : Chip) (r column row : ℕ) (x y : Option ℕ) → x ≡ place_at m.wrap m.width t.x r column → y ≡ place_at m.wrap m.height t.y r row →
    chip_at x y ≡ offset_chip m t r column row
unfolding offset_chip
offset_is m t r column row x y ex ey = ap (λ (z : Option ℕ). chip_at z y) ex ∙ ap (λ (z : Option ℕ). chip_at (place_at m.wrap m.width t.x r column) z) ey

-- a place of a ring without a division: as many times round as it takes
pub round_is : (k w n sum : ℕ) → sum ≡ k * w + n → n < w → sum % w ≡ n
round_is k w n sum is at = ap (λ s. s % w) is ∙ mod-mul-add k w n at

-- a place of a line, from the first of the window
line : (w p q r i : ℕ) → p < w → q + i ≡ p + r → place_at false w q r i ≡ Some p
line w p q r i at sum = grind (arith, cond-false, le-ltb, cond-true, lt-ltb)

-- the window has each place that is near enough, as far from its middle as the displacement says
place_covers : (wrap : Bool) (w p q r : ℕ) (z : ℤ) → Reaches wrap w p q z → forth z + back z ≤ r → (i : ℕ) × (i + forth z ≡ r + back z) × (place_at wrap w q r i ≡ Some p)
place_covers true w p q r (pos n) reach near =
    let at : p < w = reach.from_inside in (
      r - n,
      omega arith,
      elim (ahead_cases w p q reach.from_inside reach.to_inside) [
        | inl one ↦
            let x : ahead_by w p q + p ≡ q = one.1 in
            let sum : q + w * 20 + (r - n) - r ≡ 20 * w + p = omega arith in
            ap (λ k. Some (k % w)) sum ∙ ap Some (mod-mul-add 20 w p at)
        | inr one ↦
            let x : ahead_by w p q + p ≡ q + w = one.1 in
            let sum : q + w * 20 + (r - n) - r ≡ 19 * w + p = omega arith in
            ap (λ k. Some (k % w)) sum ∙ ap Some (mod-mul-add 19 w p at)
      ],
    )
place_covers true w p q r (negsuc n) reach near =
    let at : p < w = reach.from_inside in (
      r + suc n,
      omega arith,
      elim (ahead_cases w q p reach.to_inside reach.from_inside) [
        | inl one ↦
            let x : ahead_by w q p + q ≡ p = one.1 in
            let sum : q + w * 20 + (r + suc n) - r ≡ 20 * w + p = omega arith in
            ap (λ k. Some (k % w)) sum ∙ ap Some (mod-mul-add 20 w p at)
        | inr one ↦
            let x : ahead_by w q p + q ≡ p + w = one.1 in
            let sum : q + w * 20 + (r + suc n) - r ≡ 21 * w + p = omega arith in
            ap (λ k. Some (k % w)) sum ∙ ap Some (mod-mul-add 21 w p at)
      ],
    )
place_covers false w p q r (pos n) reach near =
    let at : p < w = reach.from_inside in
    let straight : p ≤ q = reach.straight refl in (
      r - n,
      omega arith,
      line w p q r (r - n) at (omega (arith, ahead_cases w p q reach.from_inside reach.to_inside)),
    )
place_covers false w p q r (negsuc n) reach near =
    let at : p < w = reach.from_inside in
    let straight : q ≤ p = reach.straight refl in (
      r + suc n,
      omega arith,
      line w p q r (r + suc n) at (omega (arith, ahead_cases w q p reach.to_inside reach.from_inside)),
    )

-- The ring has each chip from which the centre is just so many links away.
pub ring_covers : (m : Description) (t e : Chip) (r : ℕ) → HasSize m → IsInside m t → IsInside m e → distance_of m e t ≡ r → (s : ℕ) × (s < r + 1) × AtStep m t r s e
unfolding offset_chip
ring_covers m t e r size t_in e_in is = sides (one_sided d.a) (one_sided d.b)
  where
    d : Disp
    d = displacement_of m e t

    length_at : r ≡ max (forth d.a) (forth d.b) + max (back d.a) (back d.b)
    length_at = sym is ∙ length_is d

    reach : Reaches m.wrap m.width e.x t.x d.a × Reaches m.wrap m.height e.y t.y d.b
    reach = reaches m e t size e_in t_in

    x : (i : ℕ) × (i + forth d.a ≡ r + back d.a) × (place_at m.wrap m.width t.x r i ≡ Some e.x)
    x = place_covers m.wrap m.width e.x t.x r d.a reach.0 (omega (arith, length_at))

    y : (i : ℕ) × (i + forth d.b ≡ r + back d.b) × (place_at m.wrap m.height t.y r i ≡ Some e.y)
    y = place_covers m.wrap m.height e.y t.y r d.b reach.1 (omega (arith, length_at))

    at : (column row : ℕ) → x.0 ≡ column → y.0 ≡ row → AtOffsets m t r column row e
    at column row ex ey =
        ap (λ (z : Option ℕ). chip_at z (place_at m.wrap m.height t.y r row)) (ap (λ n. place_at m.wrap m.width t.x r n) (sym ex) ∙ x.2)
        ∙ ap (λ (z : Option ℕ). chip_at (Some e.x) z) (ap (λ n. place_at m.wrap m.height t.y r n) (sym ey) ∙ y.2)

    ends : (p q n : ℕ) → n ≡ max p q → (p ≡ n) ⊎ (q ≡ n)
    ends p q n top = grind (arith, cases_lt p q)

    sides : (forth d.a ≡ 0) ⊎ (back d.a ≡ 0) → (forth d.b ≡ 0) ⊎ (back d.b ≡ 0) → (s : ℕ) × (s < r + 1) × AtStep m t r s e
    sides (inr a) (inr b) =
        let ix : x.0 + forth d.a ≡ r + back d.a = x.1 in
        let iy : y.0 + forth d.b ≡ r + back d.b = y.1 in
        elim (ends (forth d.a) (forth d.b) r (omega (arith, length_at, a, b))) [
          | inl far ↦ (y.0, omega (arith, iy, b), inl (at 0 y.0 (omega (arith, ix, a, far)) refl))
          | inr far ↦ (x.0, omega (arith, ix, a), inr (inl (at x.0 0 refl (omega (arith, iy, b, far)))))
        ]
    sides (inr a) (inl b) = grind (arith, at x.0 (r + x.0) refl (omega (arith, (x.1), (y.1), a, b, length_at)))
    sides (inl a) (inr b) = grind (arith, at (r + y.0) y.0 (omega (arith, (x.1), (y.1), a, b, length_at)) refl)
    sides (inl a) (inl b) =
        let ix : x.0 + forth d.a ≡ r + back d.a = x.1 in
        let iy : y.0 + forth d.b ≡ r + back d.b = y.1 in
        elim (ends (back d.a) (back d.b) r (omega (arith, length_at, a, b))) [
          | inl far ↦ (back d.b, omega (arith, length_at, a, b), inr (inr (inr (inr (inr (at (2 * r) (r + back d.b) (omega (arith, ix, a, far)) (omega (arith, iy, b))))))))
          | inr far ↦ (back d.a, omega (arith, length_at, a, b), inr (inr (inr (inr (inl (at (r + back d.a) (2 * r) (omega (arith, ix, a)) (omega (arith, iy, b, far))))))))
        ]

-- what the search has found, one chip on
module _ (m : Description) (on : List Bool) (t : Chip) (r : ℕ) where
  pub better_past : (At : Chip → Type 0) (best : Option Chip) → ((e : Chip) → At e → IsOnWithin m on t r e → ⊥) → IsBetter m on t r At best best
  better_past At best none = record { keeps = λ e before. before; has = λ e at is. absurd (none e at is) }

  pub both : (A B : Chip → Type 0) (best mid result : Option Chip) → IsBetter m on t r A best mid → IsBetter m on t r B mid result → IsBetter m on t r (λ e. A e ⊎ B e) best result
  both A B best mid result one two = grind arith

  -- the chip of two coordinates is the one at their offsets
  pub at_offsets : (column row : ℕ) (x y : Option ℕ) (best result : Option Chip) → x ≡ place_at m.wrap m.width t.x r column → y ≡ place_at m.wrap m.height t.y r row →
      IsBetter m on t r (λ e. chip_at x y ≡ Some e) best result → IsBetter m on t r (AtOffsets m t r column row) best result
  at_offsets column row x y best result ex ey is = subst (λ (o : Option Chip). IsBetter m on t r (λ e. o ≡ Some e) best result) (offset_is m t r column row x y ex ey) is

  -- a test tells of the chip at offsets whether the table has it
  abbrev pub Sees : ℕ → ℕ → Bool → Type 0
  Sees column row b = (c : Chip) → AtOffsets m t r column row c → is_on m on c ≡ true → b ≡ true

  pub sees : (column row : ℕ) (x y : Option ℕ) (b : Bool) → x ≡ place_at m.wrap m.width t.x r column → y ≡ place_at m.wrap m.height t.y r row → b ≡ is_there m on (chip_at x y) →
      Sees column row b
  sees column row x y b ex ey is c at has = is ∙ (ap (is_there m on) (offset_is m t r column row x y ex ey ∙ at) ∙ has)

  -- such tests of one chip on each side of the ring tell whether the table has any of them
  pub sees_any : (s : ℕ) (a b c d e f : Bool) → Sees 0 s a → Sees s 0 b → Sees s (r + s) c → Sees (r + s) s d → Sees (r + s) (2 * r) e → Sees (2 * r) (r + s) f →
      (chip : Chip) → AtStep m t r s chip → is_on m on chip ≡ true → (((((a || b) || c) || d) || e) || f) ≡ true
  sees_any s a b c d e f at_a at_b at_c at_d at_e at_f chip at has = grind (arith, or_left, or_right)

  -- one chip on each side of the ring
  pub all_sides : (s : ℕ) (best one two three four five six : Option Chip) → IsBetter m on t r (AtOffsets m t r 0 s) best one → IsBetter m on t r (AtOffsets m t r s 0) one two →
      IsBetter m on t r (AtOffsets m t r s (r + s)) two three → IsBetter m on t r (AtOffsets m t r (r + s) s) three four → IsBetter m on t r (AtOffsets m t r (r + s) (2 * r)) four five →
      IsBetter m on t r (AtOffsets m t r (2 * r) (r + s)) five six → IsBetter m on t r (AtStep m t r s) best six
  all_sides s best one two three four five six a b c d e f = grind (arith, both (AtOffsets m t r (r + s) (2 * r)) (AtOffsets m t r (2 * r) (r + s)) four five six e f)

  -- what the search of a ring has found after so many steps
  abbrev pub Stepped : ℕ → Chip → Type 0
  Stepped i e = (s : ℕ) × (s < i) × AtStep m t r s e

  pub steps_more : (i : ℕ) (best result : Option Chip) → IsBetter m on t r (Stepped i) None best → IsBetter m on t r (AtStep m t r i) best result → IsBetter m on t r (Stepped (i + 1)) None result
  steps_more i best result so_far next = record {
    keeps = λ e before. absurd before;
    has = λ e at is. elim (cases_eq at.0 i) [
      | inl last ↦ next.has e (subst (λ s. AtStep m t r s e) last at.2) is
      | inr other ↦ let less : at.0 < i + 1 = at.1 in next.keeps e (so_far.has e (at.0, omega arith, at.2) is)
    ];
  }

  -- at the end of the ring
  pub ring_found : (i : ℕ) (best : Option Chip) → HasSize m → IsInside m t → r ≤ 20 → r + 1 ≤ i → IsNoneNearer m on t r → IfSome best (IsOnWithin m on t r) → IsBetter m on t r (Stepped i) None best →
      IfSome best (IsNearestOn m on t 20)
  ring_found i None size t_in narrow past none is so_far = tt
  ring_found i (Some c) size t_in narrow past none is so_far =
      let near : distance_of m c t ≤ r = is.near in (
        record { inside = is.inside; on_it = is.on_it; near = omega arith },
        λ e it. elim (cases_lt r (distance_of m e t)) [
          | inl beyond ↦ inl (omega arith)
          | inr within ↦
              let least : r ≤ distance_of m e t = none e it.inside it.on_it in
              let seen = ring_covers m t e r size t_in it.inside (omega arith) in
              let less : seen.0 < r + 1 = seen.1 in
              so_far.has e (seen.0, omega arith, seen.2) (record { inside = it.inside; on_it = it.on_it; near = within })
        ],
      )

  pub ring_none : (i : ℕ) (best : Option Chip) → HasSize m → IsInside m t → r + 1 ≤ i → IsNoneNearer m on t r → IsBetter m on t r (Stepped i) None best → IfNone best (IsNoneNearer m on t (r + 1))
  ring_none i (Some c) size t_in past none so_far = tt
  ring_none i None size t_in past none so_far = λ e e_in on_it. elim (cases_lt r (distance_of m e t)) [
    | inl beyond ↦ omega arith
    | inr within ↦
        let least : r ≤ distance_of m e t = none e e_in on_it in
        let seen = ring_covers m t e r size t_in e_in (omega arith) in
        let less : seen.0 < r + 1 = seen.1 in
        absurd (so_far.has e (seen.0, omega arith, seen.2) (record { inside = e_in; on_it = on_it; near = within }))
  ]

-- no chip that the table has is so near
abbrev pub IsNoneOn : Description → List Bool → Chip → ℕ → Type 0
IsNoneOn m on t radius = (e : Chip) → IsOnWithin m on t radius e → ⊥

-- before the first ring, and after the last
pub none_at_start : (m : Description) (on : List Bool) (t : Chip) → IsNoneNearer m on t 0
none_at_start m on t e e_in on_it = omega arith

pub none_nearer_none : (m : Description) (on : List Bool) (t : Chip) (k : ℕ) → 21 ≤ k → IsNoneNearer m on t k → IsNoneOn m on t 20
none_nearer_none m on t k past none e is = grind arith
