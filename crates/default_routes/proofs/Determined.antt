-- At most one list of kept places, and one final table.
use Rattle.default_routes.proofs.Common.{AreKept, Entry, Final, IsFinalOf, IsStrippable, KeptFrom, List, Row, Some, [], ap, arith, ends, goes, length, one_covering, refl, rows_at, same_Some}
use Rattle.default_routes.proofs.Common.{slice_get, slice_get_within, stays, suc, sym, ℕ, ◌∙◌, ◌∷◌, ◌≡◌}

module _ (rows : List Row) where
  none_behind : (i : ℕ) (ys : List ℕ) → length rows ≡ i → KeptFrom rows i ys → [] ≡ ys
  none_behind i ys at its_3 = grind (arith, slice_get_within)

  -- the row at a place can go behind one list of kept places, and stays behind another
  both_ways : (n : ℕ) (r s : Row) (xs ys : List ℕ) → slice_get rows n ≡ Some r → slice_get rows n ≡ Some s → xs ≡ ys → IsStrippable r (rows_at rows xs) → (IsStrippable s (rows_at rows ys) → ⊥) → ⊥
  both_ways n r s xs ys here there same strip keep = grind (arith, same_Some r s (sym here ∙ there))

  after_going : (n : ℕ) (row : Row) (xs ys : List ℕ) → slice_get rows n ≡ Some row → IsStrippable row (rows_at rows xs) → ((zs : List ℕ) → KeptFrom rows (suc n) zs → xs ≡ zs) → KeptFrom rows n ys → xs ≡ ys
  after_going n row xs ys here strip one its_7 = grind (arith, slice_get_within, both_ways)

  after_staying : (n : ℕ) (row : Row) (xs ys : List ℕ) → slice_get rows n ≡ Some row → (IsStrippable row (rows_at rows xs) → ⊥) → ((zs : List ℕ) → KeptFrom rows (suc n) zs → xs ≡ zs) → KeptFrom rows n ys → n ∷ xs ≡ ys
  after_staying n row xs ys here keep one its_7 = grind (arith, slice_get_within, both_ways)

  one_from : (i : ℕ) (xs ys : List ℕ) → KeptFrom rows i xs → KeptFrom rows i ys → xs ≡ ys
  one_from i xs ys ends other = none_behind (length rows) ys refl other
  one_from i xs ys (goes n row kept here strip later) other = after_going n row kept ys here strip (λ zs. one_from (suc n) kept zs later) other
  one_from i xs ys (stays n row kept here keep later) other = after_staying n row kept ys here keep (λ zs. one_from (suc n) kept zs later) other

  pub one_list : (xs ys : List ℕ) → AreKept rows xs → AreKept rows ys → xs ≡ ys
  one_list xs ys one other = one_from 0 xs ys one other

-- a final table is its entries
same_entries : (f g : Final) → f.entries ≡ g.entries → f ≡ g
same_entries f g same = ap (λ (l : List Entry). let v : Final = record { entries = l } in v) same

pub one_table : (target : ℕ) (table : List Row) (f g : Final) → IsFinalOf target table f → IsFinalOf target table g → f ≡ g
one_table target table f g one other = grind (arith, one_covering target table one.sets other.sets one.rows other.rows one.covered other.covered, one_list, same_entries)
