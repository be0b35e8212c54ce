-- A list of steps with applications: all its faults in the order of reading, and what it is (this project's own).
use Rattle.std.specs.Prelude.{ℕ, List, [], ◌∷◌, map, length, Bool, true, false, Option, Some, None, unwrap_or, if◌then◌else◌, bytes_eq, codes, nat_le}
use Rattle.serde_json.specs.Data.{Data}
use Rattle.job_text.specs.declared.faults.JobFault.{JobFault}
use Rattle.job_text.specs.declared.faults.JobFault.TheVariants.{Shape, Range}
use Rattle.job_text.specs.Members.{whole_number}
use Rattle.job_text.specs.Paths.{item_at}
use Rattle.job_text.specs.Reading.{◌▹◌}
use Rattle.job_text.specs.Fields.{count_faults, list_faults, list_value, typed_faults}
use Rattle.job_readers.specs.Items.{items_faults}
use Rattle.job_readers.specs.RunPart.{items_in, head_word, after_head}
use Rattle.job_readers.specs.declared.jobs.Job.{Job}
use Rattle.job_readers.specs.WholeJob.{job_faults, job_value}
use Rattle.job_requests.specs.declared.steps.AppJob.{AppJob}
use Rattle.job_requests.specs.declared.steps.Step.{Step}
use Rattle.job_requests.specs.declared.steps.Step.TheVariants.{Load, Unload, Run}

-- The number of an application: a whole number up to 4,294,967,295.
abbrev pub step_number_faults : List ℕ → Data → List JobFault
step_number_faults path d = typed_faults (λ n. nat_le n 4294967295) path (whole_number d)

abbrev pub number_of : Data → ℕ
number_of d = unwrap_or (whole_number d) 0

-- After `load` stand a number and a job, of version 1 or 2. The job's faults have its own path, behind those of the step.
unfoldable pub load_faults : List ℕ → List Data → List JobFault
load_faults path [] = Shape path ∷ []
load_faults path (n ∷ []) = Shape path ∷ []
load_faults path (n ∷ (d ∷ [])) = step_number_faults path n ▹ job_faults (item_at path 2) 2 d
load_faults path (n ∷ (d ∷ (e ∷ ds))) = Shape path ∷ []

-- a job with its machine
abbrev pub whole_job : Job → AppJob
whole_job job = record { machine = Some job.machine; graph = job.graph; run = job.run }

abbrev pub load_of : List Data → Step
load_of [] = Run
load_of (n ∷ []) = Run
load_of (n ∷ (d ∷ ds)) = Load (number_of n) (whole_job (job_value d))

-- After `unload` stands a number.
unfoldable pub unload_faults : List ℕ → List Data → List JobFault
unload_faults path [] = Shape path ∷ []
unload_faults path (n ∷ []) = step_number_faults path n
unload_faults path (n ∷ (d ∷ ds)) = Shape path ∷ []

abbrev pub unload_of : List Data → Step
unload_of [] = Run
unload_of (n ∷ ds) = Unload (number_of n)

-- After `run` stands nothing.
unfoldable pub run_step_faults : List ℕ → List Data → List JobFault
run_step_faults path [] = []
run_step_faults path (d ∷ ds) = Shape path ∷ []

-- What must follow the word of a step. Range where the word is none.
unfoldable pub step_word_faults : List ℕ → List ℕ → List Data → List JobFault
step_word_faults path w ds =
    if bytes_eq w (codes "load") then load_faults path ds
    else (if bytes_eq w (codes "unload") then unload_faults path ds
    else (if bytes_eq w (codes "run") then run_step_faults path ds
    else Range path ∷ []))

unfoldable pub worded_step : List ℕ → List Data → Step
worded_step w ds =
    if bytes_eq w (codes "load") then load_of ds
    else (if bytes_eq w (codes "unload") then unload_of ds
    else Run)

abbrev pub step_head_faults : List ℕ → Option (List ℕ) → List Data → List JobFault
step_head_faults path None ds = Shape path ∷ []
step_head_faults path (Some w) ds = step_word_faults path w ds

-- A step is a list that begins with its word: ["load", number, job], ["unload", number] or ["run"]. What is no list, an empty
-- list, and one that does not begin with a text, have the wrong shape, and so has one with too few or too many items.
unfoldable pub step_faults : List ℕ → Data → List JobFault
step_faults path d = step_head_faults path (head_word (items_in d)) (after_head (items_in d))

unfoldable pub step_value : Data → Step
step_value d = worded_step (unwrap_or (head_word (items_in d)) []) (after_head (items_in d))

-- Steps stand in a list of at most 65,535.
unfoldable pub steps_faults : Data → List JobFault
steps_faults d =
    list_faults (codes "job") true (Some d)
    ▹ (count_faults (codes "job") 65535 (length (list_value (Some d)))
    ▹ items_faults step_faults (codes "job") 0 (list_value (Some d)))

-- whether a step is a load
abbrev pub is_load : Step → Bool
is_load (Load number job) = true
is_load (Unload number) = false
is_load Run = false

-- a step without its machine
abbrev pub job_without_machine : AppJob → AppJob
job_without_machine job = record { machine = None; graph = job.graph; run = job.run }

abbrev pub without_machine : Step → Step
without_machine (Load number job) = Load number (job_without_machine job)
without_machine (Unload number) = Unload number
without_machine Run = Run

-- Applications share the machine of the first load. So the first load has its machine, and no later one has.
abbrev pub first_machine_alone : List Step → List Step
first_machine_alone [] = []
first_machine_alone (Load number job ∷ steps) = Load number job ∷ map without_machine steps
first_machine_alone (Unload number ∷ steps) = Unload number ∷ first_machine_alone steps
first_machine_alone (Run ∷ steps) = Run ∷ first_machine_alone steps

-- what is kept of a step, where a load was before and where none was
abbrev pub kept_step : Bool → Step → Step
kept_step loaded step = if loaded then without_machine step else step

unfoldable pub steps_value : Data → List Step
steps_value d = first_machine_alone (map step_value (list_value (Some d)))
