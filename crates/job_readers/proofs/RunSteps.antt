-- Items at their places, and the items of an event.
use Rattle.job_readers.proofs.Common.{All, Data, List, Some, as_array, get_or_from_slice_get, items_in, items_of, length, list_of-items_of, refl, slice_get, subst, ℕ, ◌<◌, ◌≡◌}

-- what holds of all items holds of the one at a place
pub holds_at : {A : Type 0} (P : A → Type 0) (xs : List A) (i : ℕ) (x : A) → All P xs → i < length xs → slice_get xs i ≡ Some x → P x
holds_at P xs i x all below e = subst P (get_or_from_slice_get xs i x x e) (all i x below)

-- the items of a value that is a list
pub items_read : (d : Data) (ds : List Data) → Some (items_of ds) ≡ as_array d → ds ≡ items_in d
items_read d ds listed = rw (← listed, list_of-items_of ds) refl
