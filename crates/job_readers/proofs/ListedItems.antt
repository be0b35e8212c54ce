-- What is read of the items of a list.
use Rattle.job_readers.proofs.Common.{Data, List, None, Option, Some, [], as_array, items_in, list_of, option_and_then, option_map, refl, sym, unwrap_or, ◌≡◌}

-- what is read of no item is read of a value that is no list
pub listed : {A : Type 0} (f : List Data → Option A) (d : Data) → f [] ≡ None → option_and_then (λ items. f (list_of items)) (as_array d) ≡ f (items_in d)
listed f d none = elim (as_array d) as (λ o. option_and_then (λ items. f (list_of items)) o ≡ f (unwrap_or (option_map list_of o) [])) [
  | None ↦ sym none
  | Some items ↦ refl
]
