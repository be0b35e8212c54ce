-- The faults of the items of a list, in order.
use Rattle.std.specs.Prelude.{ℕ, ◌+◌, List, [], ◌∷◌, ◌++◌}
use Rattle.serde_json.specs.Data.{Data}
use Rattle.job_text.specs.declared.faults.JobFault.{JobFault}
use Rattle.job_text.specs.Paths.{item_at}

-- those of each item at its path, where the first item has the number i
unfoldable pub items_faults : (List ℕ → Data → List JobFault) → List ℕ → ℕ → List Data → List JobFault
items_faults f path i [] = []
items_faults f path i (d ∷ ds) = f (item_at path i) d ++ items_faults f path (i + 1) ds

-- The same where the faults of each item may depend on what the items before it are.
unfoldable pub following_faults : {A : Type 0} → (List A → List ℕ → Data → List JobFault) → (Data → A) → List A → List ℕ → ℕ → List Data → List JobFault
following_faults f value before path i [] = []
following_faults f value before path i (d ∷ ds) =
    f before (item_at path i) d ++ following_faults f value (before ++ value d ∷ []) path (i + 1) ds
