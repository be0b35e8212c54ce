-- Original blocks that care for the same bits and have rising keys.
use Rattle.net_tables.proofs.Common.{All, All-more, AllPairs, IsRowNotAfter, List, Mark, all_pairs_push, ap, arith, count_zeros, get_or, inr, length, row_of_mark, subst, sym, take, take_more, w32, ℕ}
use Rattle.net_tables.proofs.Common.{◌+◌, ◌<◌, ◌∙◌, ◌≡◌, ◌≤◌}
use Rattle.tern_word.specs.Ternary.{generality}

-- it cares for these bits, and its key is no greater than this one
pub record IsBelow (mask key : ℕ) (a : Mark) : Type 0 where
  pub cares : a.block.mask ≡ mask
  pub low : a.block.key ≤ key

abbrev pub AreInOrder : List Mark → Type 0
AreInOrder marks = AllPairs (λ (a b : Mark). IsRowNotAfter (row_of_mark a) (row_of_mark b)) marks

as_general : (a b : Mark) → a.block.mask ≡ b.block.mask → generality a.block ≡ generality b.block
unfolding generality
as_general a b same = ap (count_zeros w32) same

-- one more, with no lesser key
pub rising_more : (marks : List Mark) (i : ℕ) (d : Mark) (mask least : ℕ) → i < length marks →
    (get_or marks i d).block.mask ≡ mask → least ≤ (get_or marks i d).block.key →
    AreInOrder (take i marks) → All (IsBelow mask least) (take i marks) →
    AreInOrder (take (i + 1) marks) × All (IsBelow mask (get_or marks i d).block.key) (take (i + 1) marks)
rising_more marks i d mask least within cares low ordered below = (
  subst AreInOrder (sym (take_more marks i d within))
      (all_pairs_push (λ (a b : Mark). IsRowNotAfter (row_of_mark a) (row_of_mark b)) (take i marks) (get_or marks i d) ordered
      (λ k e h. let before : IsBelow mask least (get_or (take i marks) k e) = below k e h in
      inr (as_general (get_or (take i marks) k e) (get_or marks i d) (before.cares ∙ sym cares), (let less : (get_or (take i marks) k e).block.key ≤ least = before.low in omega (arith, less, low))))),
  All-more (IsBelow mask (get_or marks i d).block.key) marks i d within
      (λ k e h. let before : IsBelow mask least (get_or (take i marks) k e) = below k e h in
      record { cares = before.cares; low = (let less : (get_or (take i marks) k e).block.key ≤ least = before.low in omega (arith, less, low)) })
      (record { cares = cares; low = omega arith }),
)
