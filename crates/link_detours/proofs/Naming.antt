-- Words that name columns: those in which a set has more, and those beside them.
use Rattle.link_detours.proofs.Common.{Ahead, All, All-set, Back, Bool, Chip, Description, IsIn, IsInside, IsSpread, IsSpreadAt, IsSpreadBut, List, Some, Stay, Step, and_le_l, ap, arith, bit_and}
use Rattle.link_detours.proofs.Common.{bit_at, bit_at-lt, bit_at-zero, bit_at_and, bit_at_clear_other, bit_at_clear_same, bit_at_ones, bit_not, bit_or, bits, cases_eq, ext_get_or, far_parts, get_or}
use Rattle.link_detours.proofs.Common.{get_or-set_other, get_or-set_same, inl, inr, inside_parts, length, length-set, stepped, subst, sym, w64, ℕ, ◌%◌, ◌*◌, ◌+◌, ◌-◌, ◌<◌, ◌^◌, ◌↔◌, ◌∙◌, ◌≡◌, ◌≢◌}
use Rattle.link_detours.proofs.Common.{◌≤◌, ◌⊎◌}
use Rattle.link_detours.proofs.{RoadBits.chip_of_column, Spreading.or_left, Spreading.or_right, TurnedWords.turned_ahead, TurnedWords.turned_back}

-- the columns from which a step leads to one that is named
pub beside : (columns up down width : ℕ) →
    ((y : ℕ) → y + 1 < width → bit_at up y ≡ bit_at columns (y + 1)) → ((y : ℕ) → y + 1 ≡ width → bit_at up y ≡ bit_at columns 0) →
    ((y : ℕ) → 0 < y → y < width → bit_at down y ≡ bit_at columns (y - 1)) → bit_at down 0 ≡ bit_at columns (width - 1) →
    (wrap : Bool) (step : Step) (x k : ℕ) → x < width → stepped wrap width step x ≡ Some k → bit_at columns k ≡ 1 → bit_at (bit_or (bit_or columns up) down) x ≡ 1
beside columns up down width ahead ahead_round back back_round wrap Ahead x k within leads bit =
    or_left (bit_or columns up) down x (or_right columns up x (turned_ahead columns up width ahead ahead_round wrap x k within leads ∙ bit))
beside columns up down width ahead ahead_round back back_round wrap Stay x k within leads bit = grind (arith, or_left)
beside columns up down width ahead ahead_round back back_round wrap Back x k within leads bit = grind (arith, or_right, turned_back)

-- outside the columns beside those that grew nothing changed beside a chip, so the newer set has spread there
pub spread_but : (m : Description) (old new : List ℕ) (grown near : ℕ) → ((c : Chip) → IsInside m c → IsSpread m old c → IsIn new c) →
    ((x : ℕ) → (bit_at grown x ≡ 1 → ⊥) → get_or old x 0 ≡ get_or new x 0) →
    ((wrap : Bool) (step : Step) (x k : ℕ) → x < m.width → stepped wrap m.width step x ≡ Some k → bit_at grown k ≡ 1 → bit_at near x ≡ 1) →
    IsSpreadBut m new near
spread_but m old new grown near spread told names c inside off (inl bit) = bit
spread_but m old new grown near spread told names c inside off (inr by) = grind (arith, far_parts m c (by.1.0) (by.0) by.1.2, inside_parts m c inside)

-- A set that is spreading: the columns that are left are as they were, and the others have spread.
pub record Spreading (m : Description) (set words : List ℕ) (grown left : ℕ) : Type 0 where
  pub long : length words ≡ m.width
  pub fits : All (λ w. w < 2 ^ 64) words
  pub rises : (x : ℕ) → get_or set x 0 ≤ get_or words x 0
  pub done : (c : Chip) → IsInside m c → (bit_at left c.x ≡ 1 → ⊥) → IsIn words c ↔ IsSpread m set c
  pub rest : (x : ℕ) → bit_at left x ≡ 1 → get_or words x 0 ≡ get_or set x 0
  pub told : (x : ℕ) → (bit_at grown x ≡ 1 → ⊥) → get_or set x 0 ≡ get_or words x 0
  pub grew : (grown ≡ 0) ⊎ ((x : ℕ) × (get_or set x 0 ≡ get_or words x 0 → ⊥))

abbrev pub without : ℕ → ℕ → ℕ
without left x = bit_and left (bit_not w64 (1 * 2 ^ x % 2 ^ bits w64))

module _ (left x : ℕ) (few : x < 64) (here : bit_at left x ≡ 1) where
  gone : bit_at (without left x) x ≡ 0
  gone = bit_at_clear_same w64 left x few

  pub still : (k : ℕ) → k < 64 → k ≢ x → bit_at left k ≡ 1 → bit_at (without left x) k ≡ 1
  still k within other bit = bit_at_clear_other w64 left x few k within other ∙ bit

  pub was : (k : ℕ) → bit_at (without left x) k ≡ 1 → (k ≢ x) × (bit_at left k ≡ 1)
  was k bit = grind (arith, gone, bit_at-lt, bit_at_and)

  -- a column less is left
  pub fewer : without left x < left
  fewer = grind (arith, cases_eq (without left x) left, gone, and_le_l left (bit_not w64 (1 * 2 ^ x % 2 ^ bits w64)))

  module _ (m : Description) (set_of words : List ℕ) (grown : ℕ) (narrow : m.width ≤ 64) (now : Spreading m set_of words grown left) where
    -- a column is spread
    pub spreading_more : (new : List ℕ) (more : ℕ) → x < m.width → IsSpreadAt m set_of x words grown new more → Spreading m set_of new more (without left x)
    spreading_more new more within at = record {
      long = ap length at.is ∙ (length-set words x at.word ∙ now.long);
      fits = subst (All (λ w. w < 2 ^ 64)) (sym at.is) (All-set (λ w. w < 2 ^ 64) words x at.word at.fits now.fits);
      rises = λ k. elim (cases_eq k x) [
        | inl same ↦ (let low : get_or set_of x 0 ≤ at.word = at.rises in subst (λ j. get_or set_of j 0 ≤ get_or new j 0) (sym same) (subst (λ n. get_or set_of x 0 ≤ n) (sym read) low))
        | inr other ↦ subst (λ n. get_or set_of k 0 ≤ n) (sym (unread k other)) (now.rises k)
      ];
      done = λ c inside off. elim (cases_eq c.x x) [
        | inl same ↦
            let high : c.y < m.height = (inside_parts m c inside).1 in
            let is : bit_at (get_or new c.x 0) c.y ≡ bit_at at.word c.y = ap (λ n. bit_at n c.y) (ap (λ k. get_or new k 0) same ∙ read) in (
              λ bit. subst (λ k. IsSpread m set_of (chip_of_column k c.y)) (sym same) ((at.spread c.y high).0 (sym is ∙ bit)),
              λ by. is ∙ (at.spread c.y high).1 (subst (λ k. IsSpread m set_of (chip_of_column k c.y)) same by),
            )
        | inr other ↦
            let low : c.x < m.width = (inside_parts m c inside).0 in
            let known = now.done c inside (λ bit. off (still c.x (omega (arith, low, narrow)) other bit)) in
            let is : bit_at (get_or new c.x 0) c.y ≡ bit_at (get_or words c.x 0) c.y = ap (λ n. bit_at n c.y) (unread c.x other) in
            (λ bit. known.0 (sym is ∙ bit), λ by. is ∙ known.1 by)
      ];
      rest = λ k bit. let before = was k bit in unread k before.0 ∙ now.rest k before.1;
      told = λ k off. elim (cases_eq k x) [
        | inl same ↦
            let unnamed : bit_at more x ≡ 1 → ⊥ = λ bit. off (subst (λ j. bit_at more j ≡ 1) (sym same) bit) in
            subst (λ j. get_or set_of j 0 ≡ get_or new j 0) (sym same) (sym (read ∙ at.told unnamed))
        | inr other ↦ now.told k (λ bit. off (at.named k bit)) ∙ sym (unread k other)
      ];
      grew = elim at.grew [
        | inl unchanged ↦ elim now.grew [
          | inl none ↦ inl (unchanged ∙ none)
          | inr differs ↦ inr (
            differs.0,
            λ same. differs.1 (same ∙ unread differs.0 (λ is.
                differs.1 (sym (ap (λ j. get_or words j 0) is ∙ (now.rest x here ∙ sym (ap (λ j. get_or set_of j 0) is)))))),
          )
        ]
        | inr changed ↦ inr (x, λ same. changed (sym (same ∙ read)))
      ];
    }
      where
        read : get_or new x 0 ≡ at.word
        read = ap (λ s. get_or s x 0) at.is ∙ get_or-set_same words x at.word 0 (subst (λ n. x < n) (sym now.long) within)

        unread : (k : ℕ) → k ≢ x → get_or new k 0 ≡ get_or words k 0
        unread k other = ap (λ s. get_or s k 0) at.is ∙ get_or-set_other words x k at.word 0 other

-- and where no column is named the set has not changed
pub none_grew : (old new : List ℕ) (grown : ℕ) → length old ≡ length new → grown ≡ 0 →
    ((x : ℕ) → (bit_at grown x ≡ 1 → ⊥) → get_or old x 0 ≡ get_or new x 0) → old ≡ new
none_grew old new grown long none told = ext_get_or _ _ _ long (λ x below. told x (λ bit. let clear : bit_at grown x ≡ 0 = ap (λ n. bit_at n x) none ∙ bit_at-zero x in omega (arith, clear, bit)))

-- where all columns are named nothing is asked
pub all_named : (m : Description) (set : List ℕ) → m.width ≤ 64 → IsSpreadBut m set 18446744073709551615
all_named m set narrow c inside off by = grind (arith, inside_parts m c inside, bit_at_ones 64 c.x (omega (arith, ((inside_parts m c inside).0), narrow)))
