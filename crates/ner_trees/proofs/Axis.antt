-- Displacements along one axis: which way they lead, how far, and what a step does.
use Rattle.std.proofs.Common.{rules}
use Rattle.ner_trees.proofs.Common.{Ahead, Back, Bool, None, Some, Stay, Step, add-mod_right, ahead_by, ap, arith, back, cases_eq, cases_lt, cond, cond-false, cond-true, false, forth, inl, inr}
use Rattle.ner_trees.proofs.Common.{is_ahead, is_back, lt-ltb, ltb, mod-eq_of_lt, mod_self, ne_eqb, negsuc, not, pos, refl, stepped, true, true≢false, ℕ, ℤ, ◌%◌, ◌+◌, ◌-◌, ◌<◌, ◌∙◌, ◌≡◌, ◌≤◌, ◌⊎◌}

-- the number of places ahead, by cases
pub ahead_cases : (w p q : ℕ) → p < w → q < w → ((p ≤ q) × (ahead_by w p q + p ≡ q)) ⊎ ((q < p) × (ahead_by w p q + p ≡ q + w))
ahead_cases w p q pw qw = grind (arith, cases_lt q p, add-mod_right (q - p) w, mod-eq_of_lt)

pub ahead_below : (w p q : ℕ) → p < w → q < w → ahead_by w p q < w
ahead_below w p q pw qw = grind (arith, ahead_cases w p q pw qw)

-- which way a number leads, and whether a step leads that way
abbrev pub way : ℤ → Bool
way (pos n) = true
way (negsuc n) = false

abbrev pub goes : Bool → Step → Bool
goes true s = is_ahead s
goes false s = is_back s

-- how far a place is from the start, that way round
abbrev pub gap : Bool → ℕ → ℕ → ℕ → ℕ
gap true w p n = ahead_by w p n
gap false w p n = ahead_by w n p

-- the way from one place to another does not cross the end of the axis
abbrev pub IsStraight : Bool → ℕ → ℕ → Type 0
IsStraight true p q = p ≤ q
IsStraight false p q = q ≤ p

-- a displacement along an axis leads from one place to another
pub record Reaches (wrap : Bool) (w p q : ℕ) (z : ℤ) : Type 0 where
  pub from_inside : p < w
  pub to_inside : q < w
  pub far : gap (way z) w p q ≡ forth z + back z
  pub straight : wrap ≡ false → IsStraight (way z) p q

pub gap_start : (b : Bool) (w p : ℕ) → p < w → gap b w p p ≡ 0
gap_start b w p pw = grind (arith, ahead_cases)

-- places that are equally far are one
pub gap_same : (b : Bool) (w p n k : ℕ) → p < w → n < w → k < w → gap b w p n ≡ gap b w p k → n ≡ k
gap_same b w p n k pw nw kw e = grind (arith, ahead_cases)

abbrev pub StepsOn : Bool → Bool → ℕ → ℕ → ℕ → Step → Type 0
StepsOn wrap b w p n s = (k : ℕ) × (stepped wrap w s n ≡ Some k) × (k < w) × (gap b w p k ≡ gap b w p n + 1)

-- a step ahead, on the ring
ring_ahead : (w p q n : ℕ) → p < w → q < w → n < w → ahead_by w p n < ahead_by w p q → StepsOn true true w p n Ahead
ring_ahead w p q n pw qw nw less = elim (cases_lt (n + 1) w) [
  | inl inside ↦ (
    n + 1,
    ap Some (mod-eq_of_lt inside),
    inside,
    omega (arith, ahead_cases w p n pw nw, ahead_cases w p (n + 1) pw inside, ahead_below w p q pw qw),
  )
  | inr last ↦
      let is : n + 1 ≡ w = omega arith in
      let some : 0 < w = omega arith in (
        0,
        ap Some (ap (λ k. k % w) is ∙ mod_self w),
        some,
        omega (arith, ahead_cases w p n pw nw, ahead_cases w p 0 pw some, ahead_below w p q pw qw),
      )
]

-- a step ahead, on the open axis
line_ahead : (w p q n : ℕ) → p < w → q < w → n < w → p ≤ q → ahead_by w p n < ahead_by w p q → StepsOn false true w p n Ahead
line_ahead w p q n pw qw nw straight less =
    let inside : n + 1 < w = omega (arith, ahead_cases w p q pw qw, ahead_cases w p n pw nw) in (
      n + 1,
      cond-true (ltb (n + 1) w) (Some (n + 1)) None (lt-ltb (n + 1) w inside),
      inside,
      omega (arith, ahead_cases w p q pw qw, ahead_cases w p n pw nw, ahead_cases w p (n + 1) pw inside),
    )

-- a step back, on the ring
ring_back : (w p q n : ℕ) → p < w → q < w → n < w → ahead_by w n p < ahead_by w q p → StepsOn true false w p n Back
ring_back w p q n pw qw nw less = elim (cases_eq n 0) [
  | inl first ↦
      let last : w - 1 < w = omega arith in (
        w - 1,
        ap Some (ap (λ k. (k + (w - 1)) % w) first ∙ (mod-eq_of_lt (let l : 0 + (w - 1) < w = omega arith in l) ∙ omega arith)),
        last,
        omega (arith, ahead_cases w n p nw pw, ahead_cases w (w - 1) p last pw, ahead_below w q p qw pw),
      )
  | inr other ↦
      let inside : n - 1 < w = omega arith in
      let same : n + (w - 1) ≡ (n - 1) + w = omega arith in (
        n - 1,
        ap Some (ap (λ k. k % w) same ∙ (add-mod_right (n - 1) w ∙ mod-eq_of_lt inside)),
        inside,
        omega (arith, ahead_cases w n p nw pw, ahead_cases w (n - 1) p inside pw, ahead_below w q p qw pw),
      )
]

-- a step back, on the open axis
line_back : (w p q n : ℕ) → p < w → q < w → n < w → q ≤ p → ahead_by w n p < ahead_by w q p → StepsOn false false w p n Back
line_back w p q n pw qw nw straight less = grind (arith, ahead_cases w q p qw pw, ahead_cases w n p nw pw, ahead_cases w (n - 1) p (omega arith) pw, cond-false, ne_eqb)

-- What a step does that does not lead against the way: it leads on by one, or not at all.
pub moves_on : (wrap b : Bool) (w p q n : ℕ) (s : Step) → p < w → q < w → n < w → (wrap ≡ false → IsStraight b p q) → goes (not b) s ≡ false →
    (goes b s ≡ true → gap b w p n < gap b w p q) → (k : ℕ) × (stepped wrap w s n ≡ Some k) × (k < w) × (gap b w p k ≡ gap b w p n + cond (goes b s) 1 0)
moves_on wrap b w p q n s pw qw nw straight none some = search (rules, ring_ahead, line_ahead, true≢false, ring_back, line_back)
