-- The job's own shape and its version (this project's own).
use Rattle.std.specs.Prelude.{ℕ, List, Some, None, codes}
use Rattle.serde_json.specs.Data.{Data}
use Rattle.job_text.specs.declared.faults.JobFault.{JobFault}
use Rattle.job_text.specs.Fields.{object_faults}
use Rattle.job_readers.specs.Members.{number_member_faults, number_member}

-- A job is an object.
unfoldable pub job_own_faults : List ℕ → Data → List JobFault
job_own_faults path d = object_faults path (Some d)

-- The version is 1, or one up to the greatest that is read.
unfoldable pub version_faults : List ℕ → ℕ → Data → List JobFault
version_faults path greatest d = number_member_faults path (codes "version") 1 greatest None d

unfoldable pub version_value : Data → ℕ
version_value d = number_member (codes "version") None d
