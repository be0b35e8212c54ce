-- Which job bytes are, or why they are none (this project's own).
use Rattle.std.specs.Prelude.{ℕ, List, codes, Option, Result}
use Rattle.serde_json.specs.Data.{Data}
use Rattle.job_readers.specs.WholeJob.{job_faults, job_value}
use Rattle.job_readers.specs.declared.jobs.Job.{Job}
use Rattle.run_report.specs.declared.causes.Refusal.{Refusal}
use Rattle.spin_input.specs.Kinds.{input_of, input_from, input_in}

-- A job stands at the path `job`, and versions 1 to 3 are read.
unfoldable pub job_of : Data → Result Job Refusal
job_of = input_of (job_faults (codes "job") 3) job_value

abbrev pub job_from : Option Data → Result Job Refusal
job_from = input_from job_of

abbrev pub job_in : List ℕ → Result Job Refusal
job_in = input_in job_of
