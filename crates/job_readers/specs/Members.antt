-- The faults and values of members of an object.
use Rattle.std.specs.Prelude.{ℕ, List, ◌++◌, length, Bool, nat_le, if◌then◌else◌, Option, Some, None, option_map}
use Rattle.serde_json.specs.Data.{Data}
use Rattle.job_text.specs.declared.faults.JobFault.{JobFault}
use Rattle.job_text.specs.Members.{member_of}
use Rattle.job_text.specs.Paths.{member_at}
use Rattle.job_text.specs.Fields.{number_faults, number_value, flag_faults, flag_value, list_faults, list_value, count_faults}

-- a number from low to high, with or without default
unfoldable pub number_member_faults : List ℕ → List ℕ → ℕ → ℕ → Option ℕ → Data → List JobFault
number_member_faults path name low high default d = number_faults (member_at path name) low high default (member_of name d)

unfoldable pub number_member : List ℕ → Option ℕ → Data → ℕ
number_member name default d = number_value default (member_of name d)

-- a number from low to high that may be absent
unfoldable pub optional_number : List ℕ → Data → Option ℕ
optional_number name d = option_map (λ m. number_value None (Some m)) (member_of name d)

-- a truth value with a default
unfoldable pub flag_member_faults : List ℕ → List ℕ → Data → List JobFault
flag_member_faults path name d = flag_faults (member_at path name) (member_of name d)

unfoldable pub flag_member : List ℕ → Bool → Data → Bool
flag_member name default d = flag_value default (member_of name d)

-- A list, needed or not, and how many items it may have.
unfoldable pub list_member_faults : List ℕ → List ℕ → Bool → ℕ → Data → List JobFault
list_member_faults path name needed limit d =
    list_faults (member_at path name) needed (member_of name d)
    ++ count_faults (member_at path name) limit (length (list_value (member_of name d)))

-- a list that may have any number of items
unfoldable pub long_list_member_faults : List ℕ → List ℕ → Bool → Data → List JobFault
long_list_member_faults path name needed d = list_faults (member_at path name) needed (member_of name d)

unfoldable pub list_member : List ℕ → Data → List Data
list_member name d = list_value (member_of name d)

-- A member that is read from a version on. Below that version it counts as absent, whatever it is.
unfoldable pub member_since : ℕ → List ℕ → ℕ → Data → Option Data
member_since since name version d = if nat_le since version then member_of name d else None
