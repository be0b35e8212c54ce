-- Counting, for each bit, the places that it keeps: one pass over the places, with a counter a bit.
use Rattle.cover_merge.proofs.Common.{Block, Bool, List, Row, [], and_cases, and_le_l, and_parts, ap, arith, bit_and, bit_at, bit_at-lt, bit_at-trailing_zeros, bit_at_and, bit_at_clear_other}
use Rattle.cover_merge.proofs.Common.{bit_at_clear_same, bit_at_not, bit_at_xor, bit_not, bit_xor, cases_eq, cond, cond_both, count_by-le-length, eqb-false, eqb-true, filter, filter-append, get_or}
use Rattle.cover_merge.proofs.Common.{inl, inr, keeps, kept_count, length, length-append, length-filter, length-take, min, not-false, not-true, refl, set, take, take_more, trailing_zeros, w32, ℕ, ◌%◌}
use Rattle.cover_merge.proofs.Common.{◌&&◌, ◌*◌, ◌++◌, ◌+◌, ◌-◌, ◌<◌, ◌==◌, ◌^◌, ◌∙◌, ◌∷◌, ◌≡◌, ◌≢◌}
use Rattle.cover_merge.proofs.{Lists.written_at, RefineLemmas.keeps_inside}
use Rattle.cover_merge.specs.Refinement.{can_choose, parts}

-- ---- the words

pub open_bit : (merged met : Block) (j : ℕ) → j < 32 → bit_at (bit_and met.mask (bit_not w32 merged.mask)) j ≡ cond (can_choose merged met j) 1 0
unfolding can_choose
open_bit merged met j low =
    let both : (x y : ℕ) → x < 2 → y < 2 → min y (1 - x) ≡ cond ((x == 0) && (y == 1)) 1 0 = λ x y lx ly. cond_both ((x == 0) && (y == 1)) 1 0 (λ n. min y (1 - x) ≡ n)
    (λ is. let tests = and_parts (x == 0) (y == 1) is in omega (arith, eqb-true x 0 tests.0, eqb-true y 1 tests.1))
    (λ is. elim (and_cases (x == 0) (y == 1) is) [ inl off ↦ omega (arith, eqb-false x 0 off) | inr off ↦ omega (arith, eqb-false y 1 off) ]) in
    bit_at_and met.mask (bit_not w32 merged.mask) j ∙ ap (min (bit_at met.mask j)) (bit_at_not w32 merged.mask j merged.small low)
    ∙ both (bit_at merged.mask j) (bit_at met.mask j) (bit_at-lt merged.mask j) (bit_at-lt met.mask j)

keeping_bit : (b met : Block) (free j : ℕ) → bit_at (bit_and (bit_and free b.mask) (bit_xor b.key met.key)) j ≡ cond (parts b met j) (bit_at free j) 0
unfolding parts
keeping_bit b met free j = grind (arith, bit_at_and, bit_at_xor, bit_at-lt, cond_both, and_parts, eqb-true, eqb-false, not-true, and_cases, not-false)

pub keeping_inside : (rows : List Row) (met : Block) (free j s : ℕ) (d : Row) → s < length rows
    → bit_at (bit_and (bit_and free (get_or rows s d).block.mask) (bit_xor (get_or rows s d).block.key met.key)) j ≡ cond (keeps rows met j s) (bit_at free j) 0
keeping_inside rows met free j s d within = keeping_bit (get_or rows s d).block met free j ∙ ap (λ t. cond t (bit_at free j) 0) (keeps_inside rows met j s d within)

-- ---- the bits of a word, one after another

abbrev pub without : ℕ → ℕ → ℕ
without left i = bit_and left (bit_not w32 (1 * 2 ^ i % 2 ^ 32))

-- What is counted, with the bits that are left, is what was counted and all bits.
abbrev pub AreCounted : List ℕ → ℕ → List ℕ → ℕ → Type 0
AreCounted counts left start word = (j : ℕ) → j < 32 → get_or counts j 0 + bit_at left j ≡ get_or start j 0 + bit_at word j

module _ (counts start : List ℕ) (left word : ℕ) (small : left < 2 ^ 32) (some : left ≢ 0) (long : length counts ≡ 32) (counted : AreCounted counts left start word) where
  abbrev i : ℕ
  i = trailing_zeros w32 left

  low : (i < 32) × (bit_at left i ≡ 1) × ((k : ℕ) → k < i → bit_at left k ≡ 0)
  low = bit_at-trailing_zeros w32 left (omega (arith, some)) small

  gone : bit_at (without left i) i ≡ 0
  gone = bit_at_clear_same w32 left i low.0

  pub count_fits : ((j : ℕ) → j < 32 → get_or start j 0 + 1 < 2 ^ 64) → get_or counts i 0 + 1 < 2 ^ 64
  count_fits room = omega (arith, room i low.0, counted i low.0, low.1, bit_at-lt word i)

  pub fewer_bits : without left i < left
  fewer_bits = elim (cases_eq (without left i) left) [
    | inl same ↦ absurd (omega (arith, gone, ap (λ n. bit_at n i) same, low.1))
    | inr other ↦ omega (arith, and_le_l left (bit_not w32 (1 * 2 ^ i % 2 ^ 32)), other)
  ]

  pub one_counted : AreCounted (set counts i (get_or counts i 0 + 1)) (without left i) start word
  one_counted = written_at (λ j n. j < 32 → n + bit_at (without left i) j ≡ get_or start j 0 + bit_at word j) counts i (get_or counts i 0 + 1) 0 (omega (arith, low.0, long))
      (λ within. omega (arith, gone, counted i low.0, low.1)) (λ j other within. omega (arith, bit_at_clear_other w32 left i low.0 j within other, counted j within))

-- ---- the places, one after another

-- So far the places passed are counted for each bit.
abbrev pub AreKeptCounts : List ℕ → List Row → List ℕ → Block → Block → Type 0
AreKeptCounts counts rows places merged met = (j : ℕ) → j < 32 → get_or counts j 0 ≡ kept_count rows places merged met j

-- a list of zeros counts none
pub none_counted : (counts : List ℕ) (rows : List Row) (merged met : Block) → ((j : ℕ) → j < 32 → get_or counts j 0 ≡ 0) → AreKeptCounts counts rows [] merged met
none_counted counts rows merged met zeros j low = zeros j low ∙ cond_both (can_choose merged met j) 0 0 (λ (n : ℕ). 0 ≡ n) (λ can. refl) (λ cannot. refl)

-- one more is counted where the bit can be chosen and keeps it
more : (p : ℕ → Bool) (can : Bool) (xs : List ℕ) (x : ℕ) → cond can (length (filter p xs)) 0 + cond (p x) (cond can 1 0) 0 ≡ cond can (length (filter p (xs ++ x ∷ []))) 0
more p can xs x = grind (arith, filter-append, length-append)

module _ (rows : List Row) (places : List ℕ) (merged met : Block) (k : ℕ) (within : k < length places) (counts : List ℕ) (so_far : AreKeptCounts counts rows (take k places) merged met) where
  pub room_for : length places < 2 ^ 64 → (j : ℕ) → j < 32 → get_or counts j 0 + 1 < 2 ^ 64
  room_for short j low = grind (arith, length-filter (keeps rows met j) (take k places), count_by-le-length (keeps rows met j) (take k places), low, length-take k places, cond_both)

  pub kept_more : (free word s : ℕ) → s ≡ get_or places k 0 → ((j : ℕ) → j < 32 → bit_at free j ≡ cond (can_choose merged met j) 1 0) → ((j : ℕ) → j < 32 → bit_at word j ≡ cond (keeps rows met j s) (bit_at free j) 0)
      → (new : List ℕ) → ((j : ℕ) → j < 32 → get_or new j 0 ≡ get_or counts j 0 + bit_at word j) → AreKeptCounts new rows (take (k + 1) places) merged met
  kept_more free word s read free_is word_is new new_is j low = grind (arith, low, more (keeps rows met j) (can_choose merged met j) (take k places) s, take_more places k 0 within)
