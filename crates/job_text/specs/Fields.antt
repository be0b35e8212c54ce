-- The faults and the value of a single field, which may be absent.
use Rattle.std.specs.Prelude.{ℕ, List, [], ◌∷◌, length, Bool, true, false, ◌&&◌, not, nat_lt, nat_le, if◌then◌else◌, Option, Some, None, option_map, option_and_then, unwrap_or, is_some}
use Rattle.std.specs.List.{list_all}
use Rattle.serde_json.specs.Data.{Data, null}
use Rattle.serde_json.specs.Find.{as_str, as_bool, as_array}
use Rattle.job_text.specs.declared.faults.JobFault.{JobFault}
use Rattle.job_text.specs.declared.faults.JobFault.TheVariants.{Shape, Range, TooMany}
use Rattle.job_text.specs.Members.{whole_number, list_of, is_object}

-- Shape, unless the test holds
abbrev pub shape_unless : Bool → List ℕ → List JobFault
shape_unless true path = []
shape_unless false path = Shape path ∷ []

-- Range, unless the test holds
abbrev pub range_unless : Bool → List ℕ → List JobFault
range_unless true path = []
range_unless false path = Range path ∷ []

-- Shape where the value is none of its type, else Range where it fails the test
abbrev pub typed_faults : {A : Type 0} → (A → Bool) → List ℕ → Option A → List JobFault
typed_faults test path None = Shape path ∷ []
typed_faults test path (Some x) = range_unless (test x) path

-- An object that must be there.
abbrev pub object_faults : List ℕ → Option Data → List JobFault
object_faults path None = Shape path ∷ []
object_faults path (Some d) = shape_unless (is_object d) path

abbrev pub object_value : Option Data → Data
object_value o = unwrap_or o null

abbrev pub is_within : ℕ → ℕ → ℕ → Bool
is_within low high n = nat_le low n && nat_le n high

-- A whole number from low to high. It may be absent only where it has a default.
abbrev pub number_faults : List ℕ → ℕ → ℕ → Option ℕ → Option Data → List JobFault
number_faults path low high default None = shape_unless (is_some default) path
number_faults path low high default (Some d) = typed_faults (is_within low high) path (whole_number d)

abbrev pub number_value : Option ℕ → Option Data → ℕ
number_value default None = unwrap_or default 0
number_value default (Some d) = unwrap_or (whole_number d) 0

-- a byte of printable ASCII that is no blank
abbrev pub is_printable_byte : ℕ → Bool
is_printable_byte b = nat_le 0x21 b && nat_le b 0x7e

-- A name has 1 to 64 bytes, each from 21 to 7e hexadecimal.
abbrev pub is_name : List ℕ → Bool
is_name s = nat_lt 0 (length s) && nat_le (length s) 64 && list_all is_printable_byte s

-- A text that is a name.
abbrev pub text_faults : List ℕ → Option Data → List JobFault
text_faults path o = typed_faults is_name path (option_and_then as_str o)

abbrev pub text_value : Option Data → List ℕ
text_value o = unwrap_or (option_and_then as_str o) []

-- A truth value, which may be absent.
abbrev pub flag_faults : List ℕ → Option Data → List JobFault
flag_faults path None = []
flag_faults path (Some d) = shape_unless (is_some (as_bool d)) path

abbrev pub flag_value : Bool → Option Data → Bool
flag_value default o = unwrap_or (option_and_then as_bool o) default

-- A list. Where it may be absent, it is then empty.
abbrev pub list_faults : List ℕ → Bool → Option Data → List JobFault
list_faults path needed None = shape_unless (not needed) path
list_faults path needed (Some d) = shape_unless (is_some (as_array d)) path

abbrev pub list_value : Option Data → List Data
list_value o = unwrap_or (option_map list_of (option_and_then as_array o)) []

-- A list may have so many items.
abbrev pub count_faults : List ℕ → ℕ → ℕ → List JobFault
count_faults path limit count = if nat_le count limit then [] else TooMany path count ∷ []
