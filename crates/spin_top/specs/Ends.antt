-- How a call ends (this project's own).
use Rattle.std.specs.Prelude.{◌≡◌, ◌⊎◌, ◌≤◌, ℕ, List, Option, Some, None, IfSome, Result}
use Rattle.app_loads.specs.Applications.{AreApps}
use Rattle.job_requests.specs.declared.steps.Step.{Step}
use Rattle.spin_words.specs.declared.commands.Command.TheVariants.{OfJob}
use Rattle.spin_words.specs.declared.commands.JobWord.TheVariants.{Gen}
use Rattle.spin_words.specs.Commands.{spelled}
use Rattle.run_report.specs.declared.causes.Refusal.{Refusal}
use Rattle.run_report.specs.declared.causes.Refusal.TheVariants.{WriteFault, ReadFault, Memory, Usage}
use Rattle.run_report.specs.Refusals.{line_of}
use Rattle.spin_base.specs.Outside.{FaultsRose}
use Rattle.spin_input.specs.Inputs.{Reading, IsUntouched}
use Rattle.spin_input.specs.Jobs.{job_in}
use Rattle.spin_input.specs.Requests.{request_in}
use Rattle.spin_input.specs.Steps.{steps_in}
use Rattle.job_requests.specs.declared.requests.Request.{Request}
use Rattle.par_compile.specs.Compiled.{HasPlacement}
use Rattle.spin_jobs.specs.Parts.{no_parts, WhereRun}
use Rattle.spin_jobs.specs.Runs.{HasRunOut}
use Rattle.spin_jobs.specs.Unplanned.{CanBePlanned, HasBlocks, HasNoPlan}
use Rattle.spin_top.specs.declared.outcomes.Outcome.{Outcome}
use Rattle.spin_top.specs.Causes.{HasCause, HasNoNets, HaveNoLines, AskForApps, AskForCheck, AskForJob}
use Rattle.spin_top.specs.Inputs.{AreRefused, TellsAnswerable}
use Rattle.spin_top.specs.Made.{IsMade}
use Rattle.spin_top.specs.Writing.{Writing, IsWritten}

-- How a call ends. All that the words ask for was made, and its text written. Or there is a refusal with its cause, none of the
-- parts and no applications are given, and the refusal's line was written.
pub data Ends (words : List (List ℕ)) (reading : Reading) (writing : Writing) (o : Outcome) : Type 0 where
  made : (text : List ℕ) → IsMade words reading o.parts o.apps text → IsWritten writing text None o.refusal → Ends words reading writing o
  refused : (r : Refusal) → HasCause words reading r → o.parts ≡ no_parts → o.apps ≡ None → IsWritten writing (line_of r) (Some r) o.refusal → Ends words reading writing o

-- the call says this, or a fault or want of memory stands in its place
abbrev pub Says : Option Refusal → Refusal → Type 0
Says said r = (said ≡ Some r) ⊎ ((said ≡ Some WriteFault) ⊎ ((said ≡ Some ReadFault) ⊎ (said ≡ Some Memory)))

-- where the source tells its bytes, each refusal that these have is said
abbrev pub SaysOf : {A : Type 0} → (List ℕ → Result A Refusal) → (A → Refusal → Type 0) → Option (List ℕ) → Option Refusal → Type 0
SaysOf value_in HasNone left said = (bytes : List ℕ) → left ≡ Some bytes → (r : Refusal) → AreRefused value_in HasNone bytes r → Says said r

-- the call says this, or a fault of writing stands in its place
abbrev pub SaysSurely : Option Refusal → Refusal → Type 0
SaysSurely said r = (said ≡ Some r) ⊎ (said ≡ Some WriteFault)

-- Each cause has its answer. Words that are no command are always answered so. Where they ask for a job, for a request or for steps, and the
-- source tells its bytes, each refusal that these have is the answer.
pub record IsExact (words : List (List ℕ)) (left : Option (List ℕ)) (said : Option Refusal) : Type 0 where
  pub no_command : spelled words ≡ None → SaysSurely said Usage
  pub of_job : AskForJob words → SaysOf job_in HasNoPlan left said
  pub of_request : AskForCheck words → SaysOf request_in HasNoNets left said
  pub of_steps : AskForApps words → SaysOf steps_in HaveNoLines left said

-- all vertices of a request's job have places, and all nets have keys
abbrev pub HasNets : Request → Type 0
HasNets request = HasPlacement request.job.machine request.job.graph × HasBlocks request.job.graph

-- steps can always be answered
abbrev pub CanBeDone : List Step → Type 0
CanBeDone steps = Unit {0}

-- The words ask for a job, and the source tells the bytes of one that can be planned. Or they ask for a request, and it tells the
-- bytes of one whose job can be placed and has keys. Or they ask for steps, and it tells the bytes of some.
pub data HasAnswer (words : List (List ℕ)) (left : Option (List ℕ)) : Type 0 where
  has_plan : AskForJob words → TellsAnswerable job_in CanBePlanned left → HasAnswer words left
  has_nets : AskForCheck words → TellsAnswerable request_in HasNets left → HasAnswer words left
  has_steps : AskForApps words → TellsAnswerable steps_in CanBeDone left → HasAnswer words left

-- How `gen N` ends: nothing is read, and what is given is a run that has come to its end. The status is 0; or 9, where memory ran
-- out; or 3, at a fault of the sink.
pub record IsGenerated (reading : Reading) (writing : Writing) (o : Outcome) : Type 0 where
  pub untouched : IsUntouched reading
  pub ran : WhereRun o.parts HasRunOut
  pub status : (o.status ≡ 0) ⊎ ((o.status ≡ 9) ⊎ ((o.status ≡ 3) × FaultsRose writing.faults writing.faults'))

-- each `gen N` ends so
abbrev pub EndsGenerated : List (List ℕ) → Reading → Writing → Outcome → Type 0
EndsGenerated words reading writing o = (n : ℕ) → spelled words ≡ Some (OfJob (Gen n)) → IsGenerated reading writing o

-- How `check` ends: no part is given, and the status is none of those of nets that are cut off and tables that are too long.
pub record IsOfCheck (o : Outcome) : Type 0 where
  pub none_given : o.parts ≡ no_parts
  pub no_cut_off : o.status ≡ 7 → ⊥
  pub no_long_table : o.status ≡ 8 → ⊥

-- How `apps` ends: no part is given, all that applications keep holds where they are given, and the status is none of those of a job
-- without a plan.
pub record IsOfApps (o : Outcome) : Type 0 where
  pub none_given : o.parts ≡ no_parts
  pub hold : IfSome o.apps AreApps
  pub no_unplanned_job : 5 ≤ o.status → o.status ≤ 8 → ⊥
