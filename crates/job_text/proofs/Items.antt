-- The items of a list that a JSON value is.
use Rattle.std.proofs.Common.{◌≡◌, ℕ, List, [], ◌∷◌, Bool, Option, Some, refl, ap}
use Rattle.serde_json.specs.{Data.Data, Find.as_array, View.items_of}
use Rattle.job_text.specs.{Members.list_of, Fields.list_faults, Fields.list_value}

-- the items of a list of values are these values
pub list_of-items_of : (ds : List Data) → list_of (items_of ds) ≡ ds
list_of-items_of [] = refl
list_of-items_of (d ∷ ds) = ap (λ rest. d ∷ rest) (list_of-items_of ds)

-- what a field that is a list has
pub list-read : (path : List ℕ) (needed : Bool) (o : Option Data) (d : Data) (ds : List Data) → o ≡ Some d → Some (items_of ds) ≡ as_array d → (list_faults path needed o ≡ []) × (ds ≡ list_value o)
list-read path needed o d ds there listed = rw (there, ← listed, list_of-items_of ds) (refl, refl)
