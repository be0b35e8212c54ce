-- How a set of chips spreads over live links, link by link and column by column.
use Rattle.link_detours.proofs.Common.{Chip, Description, Dir, IsLiveLink, IsSpread, LeadsInto, List, Some, arith, bit_and, bit_at, bit_at-lt, bit_at_and, bit_at_or, bit_or, cases_eq, dir_number}
use Rattle.link_detours.proofs.Common.{far_of, far_parts, get_or, inl, inr, le_or_l, live_ends, same_dir, stepped, subst, sym, x_step, y_step, ℕ, ◌+◌, ◌<◌, ◌↔◌, ◌∙◌, ◌≡◌, ◌≤◌}
use Rattle.link_detours.proofs.RoadBits.{chip_of_column}

-- a bit of one of two words is one of both
pub or_left : (a b y : ℕ) → bit_at a y ≡ 1 → bit_at (bit_or a b) y ≡ 1
or_left a b y bit = omega (arith, bit_at_or a b y, bit_at-lt b y)

pub or_right : (a b y : ℕ) → bit_at b y ≡ 1 → bit_at (bit_or a b) y ≡ 1
or_right a b y bit = omega (arith, bit_at_or a b y, bit_at-lt a y)

and_both : (a b y : ℕ) → bit_at (bit_and a b) y ≡ 1 → (bit_at a y ≡ 1) × (bit_at b y ≡ 1)
and_both a b y bit = (omega (arith, bit_at_and a b y, bit_at-lt a y, bit_at-lt b y), omega (arith, bit_at_and a b y, bit_at-lt a y, bit_at-lt b y))

-- the bits of the chips whose link leads, live, to a chip of the set
pub leading_told : (m : Description) (set : List ℕ) (x y beyond column turned road : ℕ) (d : Dir) →
    ((bit_at road y ≡ 1) ↔ IsLiveLink m (chip_of_column x y) d) →
    ((k : ℕ) → stepped m.wrap m.width (x_step d) x ≡ Some k → beyond ≡ k) → column ≡ get_or set beyond 0 →
    ((k : ℕ) → stepped m.wrap m.height (y_step d) y ≡ Some k → bit_at turned y ≡ bit_at column k) →
    (bit_at (bit_and turned road) y ≡ 1) ↔ LeadsInto m set (chip_of_column x y) d
leading_told m set x y beyond column turned road d told at_column is at_bit = (
  λ bit.
      let both = and_both turned road y bit in
      let lives : IsLiveLink m (chip_of_column x y) d = told.0 both.1 in
      let ends = live_ends m (chip_of_column x y) d lives in
      (ends.0, lives, ends.1, sym (reads ends.0 ends.1) ∙ both.0),
  λ leads.
      let there : bit_at turned y ≡ 1 = reads leads.0 leads.2 ∙ leads.3 in
      let lives : bit_at road y ≡ 1 = told.1 leads.1 in omega (arith, bit_at_and turned road y),
)
  where
    reads : (e : Chip) → far_of m (chip_of_column x y) d ≡ Some e → bit_at turned y ≡ bit_at (get_or set e.x 0) e.y
    reads e leads = grind (arith, far_parts m (chip_of_column x y) e d leads, chip_of_column x y, get_or)

-- a column's word, with the chips from which the links so far lead to the set
pub record SpreadTo (m : Description) (set : List ℕ) (x word i : ℕ) : Type 0 where
  pub rises : get_or set x 0 ≤ word
  pub old : (y : ℕ) → bit_at (get_or set x 0) y ≡ 1 → bit_at word y ≡ 1
  pub new : (y : ℕ) (d : Dir) → y < m.height → dir_number d < i → LeadsInto m set (chip_of_column x y) d → bit_at word y ≡ 1
  pub only : (y : ℕ) → y < m.height → bit_at word y ≡ 1 → IsSpread m set (chip_of_column x y)

pub SpreadTo-more : (m : Description) (set : List ℕ) (x word i leading : ℕ) (d : Dir) → dir_number d ≡ i →
    ((y : ℕ) → y < m.height → (bit_at leading y ≡ 1) ↔ LeadsInto m set (chip_of_column x y) d) →
    SpreadTo m set x word i → SpreadTo m set x (bit_or word leading) (i + 1)
SpreadTo-more m set x word i leading d at told so_far = record {
  rises = let low : get_or set x 0 ≤ word = so_far.rises in let high : word ≤ bit_or word leading = le_or_l word leading in omega (arith, low, high);
  old = λ y bit. or_left word leading y (so_far.old y bit);
  new = λ y f inside below leads. elim (cases_eq (dir_number f) i) [
    | inl here ↦
        let same : f ≡ d = same_dir f d (here ∙ sym at) in
        or_right word leading y ((told y inside).1 (subst (λ (o : Dir). LeadsInto m set (chip_of_column x y) o) same leads))
    | inr other ↦ or_left word leading y (so_far.new y f inside (omega (arith, below, other)) leads)
  ];
  only = λ y inside bit.
      elim (cases_eq (bit_at word y) 1) [
        | inl before ↦ so_far.only y inside before
        | inr other ↦ inr (d, (told y inside).0 (omega (arith, bit_at_or word leading y, bit_at-lt word y, bit_at-lt leading y, bit, other)))
      ];
}
