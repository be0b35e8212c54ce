-- Which input bytes are, or why they are none: the same for each kind of input (this project's own). A kind says of a JSON value
-- which faults it has, in the order of reading, and which input it is.
use Rattle.std.specs.Prelude.{ℕ, List, [], ◌∷◌, length, nat_lt, if◌then◌else◌, Option, Some, None, Result, Ok, Err}
use Rattle.serde_json.specs.Data.{Data}
use Rattle.job_text.specs.declared.faults.JobFault.{JobFault}
use Rattle.job_text.specs.Json.{json_of}
use Rattle.run_report.specs.declared.causes.Refusal.{Refusal}
use Rattle.run_report.specs.declared.causes.Refusal.TheVariants as refusals

-- A value with a fault is refused for its first one. One without is the input that was read.
abbrev pub input_by : {A : Type 0} → List JobFault → A → Result A Refusal
input_by [] input = Ok input
input_by (f ∷ fs) input = Err (refusals.Job f)

abbrev pub input_of : {A : Type 0} → (Data → List JobFault) → (Data → A) → Data → Result A Refusal
input_of faults value d = input_by (faults d) (value d)

-- No value is no JSON.
abbrev pub input_from : {A : Type 0} → (Data → Result A Refusal) → Option Data → Result A Refusal
input_from kind None = Err refusals.NotJson
input_from kind (Some d) = kind d

-- Bytes are too long where they are more than 16,777,216, and not JSON where serde_json has no reading of them. Else they
-- are the input that the value is, or have its first fault.
unfoldable pub input_in : {A : Type 0} → (Data → Result A Refusal) → List ℕ → Result A Refusal
input_in kind bytes = if nat_lt 16777216 (length bytes) then Err refusals.TooLong else input_from kind (json_of bytes)
