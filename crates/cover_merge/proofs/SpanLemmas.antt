-- Spans of aliases: what lies in them, and what need not be looked at.
use Rattle.cover_merge.proofs.Common.{Alias, Block, IsFirstAt, IsFirstMet, LiesIn, LiesIn-merge, LiesIn-trans, List, [], arith, get_or, get_or_default, length, merge_two, refl, slice_get-get_or, ℕ}
use Rattle.cover_merge.proofs.Common.{◌+◌, ◌<◌, ◌∷◌, ◌≤◌}

-- ---- one span

lies_first : (a b : Block) → LiesIn a (merge_two a b)
lies_first a b = LiesIn-merge (a ∷ b ∷ []) 0 a (omega arith)

lies_second : (a b : Block) → LiesIn b (merge_two a b)
lies_second a b = LiesIn-merge (a ∷ b ∷ []) 1 a (omega arith)

-- one alias more lies in the span
pub span_more : (aliases : List Alias) (from i : ℕ) (span : Block) (item : Alias) → i < length aliases → ((j : ℕ) (d : Alias) → from ≤ j → j < i → LiesIn (get_or aliases j d).block span)
    → (j : ℕ) (d : Alias) → from ≤ j → j < i + 1 → LiesIn (get_or aliases j d).block (merge_two span (get_or aliases i item).block)
span_more aliases from i span item inside was j d begins ends = grind (arith, get_or, get_or_default, lies_second, lies_first, LiesIn-trans)

-- ---- all spans

-- ---- the first alias that a block meets

module _ (block : Block) (aliases : List Alias) where
  -- the block that is met
  pub met_at : (at : ℕ) (alias : Alias) → IsFirstAt block aliases 0 (length aliases) at → IsFirstMet block aliases (get_or aliases at alias).block
  met_at at alias first = record {
    at = at;
    alias = get_or aliases at alias;
    found = slice_get-get_or aliases at alias first.ends;
    block = refl;
    meets = first.meets alias;
    before = λ k d less. first.before k d (omega arith) less;
  }
