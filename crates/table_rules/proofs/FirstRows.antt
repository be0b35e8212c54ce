-- Which row has a key first.
use Rattle.table_rules.proofs.Common.{All-cons, All-head, All-nil, All-tail, Block, List, Matches, None, NoneHas, RoutedBlock, Some, [], ap, arith, bit_and, cond, eq-eqb, eqb_tells, false}
use Rattle.table_rules.proofs.Common.{find-append, first_with, inl, inr, none-some, option_or, refl, row_blocks, same_Some, sym, takes_key, true, ℕ, ◌++◌, ◌∙◌, ◌∷◌, ◌≡◌, ◌⊎◌}

pub has_tells : (k : ℕ) (r : RoutedBlock) → ((takes_key k r ≡ true) × Matches r.block k) ⊎ ((takes_key k r ≡ false) × (Matches r.block k → ⊥))
has_tells k r = grind (arith, eqb_tells (bit_and k r.block.mask) r.block.key)

pub first_hit : (r : RoutedBlock) (rows : List RoutedBlock) (k : ℕ) → Matches r.block k → first_with (r ∷ rows) k ≡ Some r
first_hit r rows k hit = ap (λ b. cond b (Some r) (first_with rows k)) (eq-eqb (bit_and k r.block.mask) r.block.key hit)

pub first_miss : (r : RoutedBlock) (rows : List RoutedBlock) (k : ℕ) → (Matches r.block k → ⊥) → first_with (r ∷ rows) k ≡ first_with rows k
first_miss r rows k miss = grind (arith, has_tells k r)

-- where none of the blocks has the key, no row is the first
pub none_first : (rows : List RoutedBlock) (k : ℕ) → NoneHas (row_blocks rows) k → first_with rows k ≡ None
none_first [] k none = refl
none_first (r ∷ rows) k none =
    first_miss r rows k (All-head (λ (e : Block). Matches e k → ⊥) r.block (row_blocks rows) none)
    ∙ none_first rows k (All-tail (λ (e : Block). Matches e k → ⊥) r.block (row_blocks rows) none)

pub first_none : (rows : List RoutedBlock) (k : ℕ) → first_with rows k ≡ None → NoneHas (row_blocks rows) k
first_none [] k none = All-nil (λ (e : Block). Matches e k → ⊥)
first_none (r ∷ rows) k none = elim (has_tells k r) [
  | inl hit ↦ absurd (none-some r (sym none ∙ first_hit r rows k hit.1))
  | inr miss ↦ All-cons (λ (e : Block). Matches e k → ⊥) r.block (row_blocks rows) miss.1 (first_none rows k (sym (first_miss r rows k miss.1) ∙ none))
]

-- where no row is, the first of those that follow is
pub first_next : (rows more : List RoutedBlock) (k : ℕ) → first_with rows k ≡ None → first_with (rows ++ more) k ≡ first_with more k
first_next rows more k none = find-append (takes_key k) rows more ∙ ap (λ o. option_or o (first_with more k)) none

-- where none of more rows is the first, none of the rows is
pub none_before : (rows more : List RoutedBlock) (k : ℕ) → first_with (rows ++ more) k ≡ None → first_with rows k ≡ None
none_before [] more k none = refl
none_before (r ∷ rows) more k none = elim (has_tells k r) [
  | inl hit ↦ absurd (none-some r (sym none ∙ first_hit r (rows ++ more) k hit.1))
  | inr miss ↦ first_miss r rows k miss.1 ∙ none_before rows more k (sym (first_miss r (rows ++ more) k miss.1) ∙ none)
]

-- a row that has the key is not behind rows of which none is the first
pub not_none : (rows : List RoutedBlock) (g : RoutedBlock) (k : ℕ) → Matches g.block k → first_with (rows ++ g ∷ []) k ≡ None → ⊥
not_none rows g k hit none = none-some g (sym none ∙ (first_next rows (g ∷ []) k (none_before rows (g ∷ []) k none) ∙ first_hit g [] k hit))

-- the first row with one more: one of those before, or that one
pub first_of_more : (rows : List RoutedBlock) (g x : RoutedBlock) (k : ℕ) → first_with (rows ++ g ∷ []) k ≡ Some x → (first_with rows k ≡ Some x) ⊎ ((first_with rows k ≡ None) × (g ≡ x) × Matches g.block k)
first_of_more [] g x k first = grind (arith, has_tells k g, first_miss g, first_hit g, same_Some, none-some)
first_of_more (r ∷ rows) g x k first = elim (has_tells k r) [
  | inl hit ↦ inl (first_hit r rows k hit.1 ∙ (sym (first_hit r (rows ++ g ∷ []) k hit.1) ∙ first))
  | inr miss ↦ elim (first_of_more rows g x k (sym (first_miss r (rows ++ g ∷ []) k miss.1) ∙ first)) [
    | inl of_rows ↦ inl (first_miss r rows k miss.1 ∙ of_rows)
    | inr of_g ↦ inr (first_miss r rows k miss.1 ∙ of_g.0, of_g.1, of_g.2)
  ]
]
