-- Names, and the places at which they stand in a list (this project's own).
use Rattle.std.specs.Prelude.{ℕ, ◌+◌, List, [], ◌∷◌, Bool, true, false, Option, Some, None, option_map, unwrap_or, if◌then◌else◌, bytes_eq}
use Rattle.serde_json.specs.Data.{Data}
use Rattle.job_text.specs.declared.faults.JobFault.{JobFault}
use Rattle.job_text.specs.declared.faults.JobFault.TheVariants.{UnknownName, DoubleName, Clash}
use Rattle.job_text.specs.Reading.{◌▹◌}
use Rattle.job_text.specs.Fields.{text_faults, text_value}

-- the least place of a text in a list
abbrev pub name_place_in : List (List ℕ) → List ℕ → Option ℕ
name_place_in [] s = None
name_place_in (n ∷ names) s = if bytes_eq n s then Some 0 else option_map (λ i. i + 1) (name_place_in names s)

-- UnknownName where there is no place
abbrev pub unknown_faults : List ℕ → Option ℕ → List JobFault
unknown_faults path None = UnknownName path ∷ []
unknown_faults path (Some i) = []

-- DoubleName where there is a place
abbrev pub double_faults : List ℕ → Option ℕ → List JobFault
double_faults path None = []
double_faults path (Some i) = DoubleName path ∷ []

-- Clash where the test holds
abbrev pub clash_if : Bool → List ℕ → List JobFault
clash_if false path = []
clash_if true path = Clash path ∷ []

-- A text that refers to one of the names. It is read as a name first.
unfoldable pub reference_faults : List (List ℕ) → List ℕ → Option Data → List JobFault
reference_faults names path o = text_faults path o ▹ unknown_faults path (name_place_in names (text_value o))

unfoldable pub reference_value : List (List ℕ) → Option Data → ℕ
reference_value names o = unwrap_or (name_place_in names (text_value o)) 0

-- A name that none of the names before it is.
unfoldable pub new_name_faults : List (List ℕ) → List ℕ → Option Data → List JobFault
new_name_faults before path o = text_faults path o ▹ double_faults path (name_place_in before (text_value o))
