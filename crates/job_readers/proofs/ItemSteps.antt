-- A loop over the items of a list goes on with the faults of those that are left.
use Rattle.job_readers.proofs.Common.{Data, IsFirstFault, JobFault, List, TextErr, [], add-one, arith, drop, drop-cons, drop_all, get_or, item_at, length, map, map-append, refl, sym, take, take_all}
use Rattle.job_readers.proofs.Common.{take_more, ℕ, ◌++◌, ◌+◌, ◌<◌, ◌∙◌, ◌∷◌, ◌≡◌, ◌≤◌}
use Rattle.job_readers.specs.Items.{items_faults}
use Rattle.job_readers.proofs.Firsts.{fails_before}

module _ {V : Type 0} (g : V → Data) (xs : List V) (i : ℕ) (x : V) (below : i < length xs) (is : x ≡ get_or xs i x) where
  left : map g (drop i xs) ≡ g x ∷ map g (drop (i + 1) xs)
  left = rw (drop-cons xs i x, ← is, add-one) refl

  -- an item without a fault
  pub items-more : (f : List ℕ → Data → List JobFault) (path at : List ℕ) (total : List JobFault) → at ≡ item_at path i → f at (g x) ≡ [] → items_faults f path i (map g (drop i xs)) ≡ total → items_faults f path (i + 1) (map g (drop (i + 1) xs)) ≡ total
  unfolding items_faults
  items-more f path at total here good so_far = grind (arith, left)

  -- an item with a fault
  pub items-fail : (f : List ℕ → Data → List JobFault) (path at : List ℕ) (total : List JobFault) (e : TextErr) → at ≡ item_at path i → IsFirstFault e (f at (g x)) → items_faults f path i (map g (drop i xs)) ≡ total → IsFirstFault e total
  unfolding items_faults
  items-fail f path at total e here bad so_far = grind (arith, left, fails_before)

  -- one more value
  pub values-more : {A : Type 0} (v : Data → A) (out new : List A) → out ≡ map v (map g (take i xs)) → new ≡ out ++ v (g x) ∷ [] → new ≡ map v (map g (take (i + 1) xs))
  values-more v out new so_far pushed = pushed ∙ rw (so_far, take_more xs i x below, ← is, map-append, map-append) refl

-- no item is left
pub items-none : {V : Type 0} (g : V → Data) (xs : List V) (i : ℕ) (f : List ℕ → Data → List JobFault) (path : List ℕ) (total : List JobFault) → length xs ≤ i → items_faults f path i (map g (drop i xs)) ≡ total → total ≡ []
unfolding items_faults
items-none g xs i f path total end so_far = sym so_far ∙ rw (drop_all i xs end) refl

-- all values
pub values-all : {V A : Type 0} (g : V → Data) (xs : List V) (i : ℕ) (v : Data → A) (out : List A) → length xs ≤ i → out ≡ map v (map g (take i xs)) → out ≡ map v (map g xs)
values-all g xs i v out end so_far = so_far ∙ rw (take_all i xs end) refl
