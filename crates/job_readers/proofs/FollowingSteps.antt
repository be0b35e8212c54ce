-- A loop over items whose faults depend on those before goes on with the faults of those that are left.
use Rattle.job_readers.proofs.Common.{Data, IsFirstFault, JobFault, List, TextErr, [], add-one, arith, drop, drop-cons, drop_all, get_or, item_at, length, map, refl, sym, ℕ, ◌++◌, ◌+◌, ◌<◌, ◌∙◌, ◌∷◌}
use Rattle.job_readers.proofs.Common.{◌≡◌, ◌≤◌}
use Rattle.job_readers.specs.Items.{following_faults}
use Rattle.job_readers.proofs.Firsts.{fails_before}

module _ {V A : Type 0} (g : V → Data) (xs : List V) (i : ℕ) (x : V) (below : i < length xs) (is : x ≡ get_or xs i x) (f : List A → List ℕ → Data → List JobFault) (value : Data → A) (before : List A) (path at : List ℕ) (total : List JobFault) (here : at ≡ item_at path i) where
  left : map g (drop i xs) ≡ g x ∷ map g (drop (i + 1) xs)
  left = rw (drop-cons xs i x, ← is, add-one) refl

  -- an item without a fault
  pub following-more : (new : List A) → new ≡ before ++ value (g x) ∷ [] → f before at (g x) ≡ [] → following_faults f value before path i (map g (drop i xs)) ≡ total → following_faults f value new path (i + 1) (map g (drop (i + 1) xs)) ≡ total
  unfolding following_faults
  following-more new pushed good so_far = grind (arith, left)

  -- an item with a fault
  pub following-fail : (e : TextErr) → IsFirstFault e (f before at (g x)) → following_faults f value before path i (map g (drop i xs)) ≡ total → IsFirstFault e total
  unfolding following_faults
  following-fail e bad so_far = grind (arith, left, fails_before)

-- no item is left
pub following-none : {V A : Type 0} (g : V → Data) (xs : List V) (i : ℕ) (f : List A → List ℕ → Data → List JobFault) (value : Data → A) (before : List A) (path : List ℕ) (total : List JobFault) → length xs ≤ i → following_faults f value before path i (map g (drop i xs)) ≡ total → total ≡ []
unfolding following_faults
following-none g xs i f value before path total end so_far = sym so_far ∙ rw (drop_all i xs end) refl
