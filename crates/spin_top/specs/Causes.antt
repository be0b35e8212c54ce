-- Why a call gives no text of its own (this project's own).
use Rattle.std.specs.Prelude.{◌≡◌, ◌⊎◌, ℕ, List, Some, None}
use Rattle.job_requests.specs.declared.steps.Step.{Step}
use Rattle.job_requests.specs.declared.requests.Request.{Request}
use Rattle.spin_checks.specs.Answers.{IsJobRefusal}
use Rattle.spin_words.specs.declared.commands.Command.TheVariants.{OfJob, Check, Apps}
use Rattle.spin_words.specs.declared.commands.JobWord.{JobWord}
use Rattle.spin_words.specs.Commands.{spelled, ReadsJob}
use Rattle.run_report.specs.declared.causes.Refusal.{Refusal}
use Rattle.run_report.specs.declared.causes.Refusal.TheVariants as refusals
use Rattle.spin_input.specs.Inputs.{Reading, HasNoFault, IsUntouched, IsReadInPart}
use Rattle.spin_input.specs.Jobs.{job_in}
use Rattle.spin_input.specs.Requests.{request_in}
use Rattle.spin_input.specs.Steps.{steps_in}
use Rattle.spin_jobs.specs.Unplanned.{HasNoPlan}
use Rattle.spin_top.specs.Inputs.{IsRefusedFor}

-- the words are a command that reads a job
abbrev pub AskForJob : List (List ℕ) → Type 0
AskForJob words = (w : JobWord) × (spelled words ≡ Some (OfJob w)) × ReadsJob w

-- the words are `check`, which reads a request
abbrev pub AskForCheck : List (List ℕ) → Type 0
AskForCheck words = spelled words ≡ Some Check

-- the words are `apps`, which reads steps with applications
abbrev pub AskForApps : List (List ℕ) → Type 0
AskForApps words = spelled words ≡ Some Apps

-- the words are a command that reads
abbrev pub AskToRead : List (List ℕ) → Type 0
AskToRead words = AskForJob words ⊎ (AskForCheck words ⊎ AskForApps words)

-- where the words are a command that reads, no read failed, and what the source lost it gave; else nothing was read
abbrev pub IsReadAsAsked : List (List ℕ) → Reading → Type 0
IsReadAsAsked words reading = (AskToRead words × IsReadInPart reading × HasNoFault reading) ⊎ IsUntouched reading

-- The words are a command. Words that are none need no memory to be told so.
abbrev pub AreCommand : List (List ℕ) → Type 0
AreCommand words = spelled words ≡ None → ⊥

-- Why a request has no answer: a vertex of its job has no room, or all have, and a net has no keys.
abbrev pub HasNoNets : Request → Refusal → Type 0
HasNoNets request r = IsJobRefusal request.job.machine request.job.graph r

-- No steps are without an answer: what is refused of a load is told in its line.
abbrev pub HaveNoLines : List Step → Refusal → Type 0
HaveNoLines steps r = ⊥

-- Why a call gives no text of its own, with what was read of the source. The words are no command, and nothing was read. Or they
-- ask for a job, and there is none, or one without a plan; or for a request, and there is none, or one without an answer; or for
-- steps, and there are none. Or memory ran out, which may come at any time to words that are a command, but not where a read failed.
pub data HasCause (words : List (List ℕ)) (reading : Reading) (r : Refusal) : Type 0 where
  usage : spelled words ≡ None → IsUntouched reading → r ≡ refusals.Usage → HasCause words reading r
  of_job : AskForJob words → IsRefusedFor job_in HasNoPlan reading r → HasCause words reading r
  of_request : AskForCheck words → IsRefusedFor request_in HasNoNets reading r → HasCause words reading r
  of_steps : AskForApps words → IsRefusedFor steps_in HaveNoLines reading r → HasCause words reading r
  no_memory : AreCommand words → IsReadAsAsked words reading → r ≡ refusals.Memory → HasCause words reading r
