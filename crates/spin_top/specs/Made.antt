-- What a call makes (this project's own).
use Rattle.std.specs.Prelude.{◌≡◌, ◌∷◌, ℕ, List, Option, Some, None, IfSome, is_some, codes}
use Rattle.std.specs.List.{list_any}
use Rattle.spin_apps.specs.Answers.{AreAnswered, is_load}
use Rattle.app_loads.specs.Applications.{AreApps}
use Rattle.app_loads.specs.Host.{Host}
use Rattle.job_requests.specs.declared.steps.Step.{Step}
use Rattle.job_requests.specs.declared.requests.Request.{Request}
use Rattle.spin_checks.specs.Answers.{IsAnswer, NamesMisrouted, RoutesRight}
use Rattle.spin_checks.specs.Findings.{right_line}
use Rattle.spin_checks.specs.Plans.{HasKeptRows, trees_of}
use Rattle.par_compile.specs.Compiled.{IsPlanOf}
use Rattle.par_compile.specs.declared.compiling.Plan.{Plan}
use Rattle.table_load.specs.Images.{Spells}
use Rattle.table_load.specs.declared.tables.Image.{Image}
use Rattle.job_readers.specs.Named.{HasNamesApart}
use Rattle.job_readers.specs.declared.jobs.Job.{Job}
use Rattle.run_report.specs.ReportText.{line}
use Rattle.spin_words.specs.Commands.{spelled}
use Rattle.spin_words.specs.declared.commands.Command.TheVariants.{OfJob}
use Rattle.spin_words.specs.declared.commands.JobWord.{JobWord}
use Rattle.spin_words.specs.declared.commands.JobWord.TheVariants.{Run, Reinject, Trace, Compile, Tables, Gen}
use Rattle.run_report.specs.declared.causes.Refusal.{Refusal}
use Rattle.run_report.specs.declared.causes.Refusal.TheVariants as refusals
use Rattle.spin_input.specs.Inputs.{Reading, HasNoInput, IsReadAs, IsUntouched}
use Rattle.spin_input.specs.Jobs.{job_in}
use Rattle.spin_input.specs.Requests.{request_in}
use Rattle.spin_input.specs.Steps.{steps_in}
use Rattle.job_gen.specs.Generated.{gen_job}
use Rattle.spin_jobs.specs.declared.outcomes.Parts.{Parts}
use Rattle.spin_jobs.specs.Parts.{no_parts}
use Rattle.spin_jobs.specs.Words.{IsMadeOf}
use Rattle.spin_top.specs.Causes.{AskForApps, AskForCheck}

-- ---- words of a job

-- The job of a word: for `gen N` that of the number, and nothing is read; for each other one the job that all bytes left are.
abbrev pub IsJobOf : JobWord → Reading → Job → Type 0
IsJobOf Run reading job = IsReadAs job_in reading job
IsJobOf Reinject reading job = IsReadAs job_in reading job
IsJobOf Trace reading job = IsReadAs job_in reading job
IsJobOf Compile reading job = IsReadAs job_in reading job
IsJobOf Tables reading job = IsReadAs job_in reading job
IsJobOf (Gen n) reading job = IsUntouched reading × (job ≡ gen_job n)

-- Why a word has no job: for `gen N` memory ran out, and nothing was read; for each other one reading has its causes.
abbrev pub HasNoJob : JobWord → Reading → Refusal → Type 0
HasNoJob Run reading r = HasNoInput job_in reading r
HasNoJob Reinject reading r = HasNoInput job_in reading r
HasNoJob Trace reading r = HasNoInput job_in reading r
HasNoJob Compile reading r = HasNoInput job_in reading r
HasNoJob Tables reading r = HasNoInput job_in reading r
HasNoJob (Gen n) reading r = IsUntouched reading × (r ≡ refusals.Memory)

-- The words are one of a job; it has its job, in which no name stands twice; and the word makes this of the job.
pub record IsMadeOfJob (words : List (List ℕ)) (reading : Reading) (parts : Parts) (text : List ℕ) : Type 0 where
  pub word : JobWord
  pub is_word : spelled words ≡ Some (OfJob word)
  pub job : Job
  pub its_job : IsJobOf word reading job
  pub names : HasNamesApart job.graph
  pub made : IsMadeOf word job parts text

-- ---- checks

-- Where the request's trees and image are those of a plan that the compiler makes of its job, the text is `right`.
abbrev pub IsRightOfPlans : Request → List ℕ → Type 0
IsRightOfPlans request text = (target : ℕ) (plan : Plan) (v : Image) → IsPlanOf request.job.machine request.job.graph target plan →
    HasKeptRows request.job.machine plan.tables v → request.trees ≡ trees_of plan.nets → Spells v request.image → text ≡ right_line

-- The text is the only answer to a request. Where it says `right`, the tables that the image loads route each key of each net by its
-- tree; where it says `wrong`, they give a key that it names another route. What the compiler makes is answered `right`.
pub record IsChecked (request : Request) (text : List ℕ) : Type 0 where
  pub answer : IsAnswer request.job.machine request.job.graph request.trees request.image text
  pub only : (other : List ℕ) → IsAnswer request.job.machine request.job.graph request.trees request.image other → other ≡ text
  pub right : text ≡ right_line → RoutesRight request.job.machine request.job.graph request.trees request.image
  pub wrong : (words : List (List ℕ)) → text ≡ line (codes "wrong" ∷ words) → NamesMisrouted request.job.machine request.job.graph request.trees request.image text
  pub made : IsRightOfPlans request text

-- ---- applications

-- no other text is the lines of the steps, whatever machine they leave
abbrev pub HaveOneText : List Step → List ℕ → Type 0
HaveOneText steps text = (other : List ℕ) (last : Option Host) → AreAnswered steps other last → other ≡ text

-- The text is the lines of the steps, each the answer to its step on the state that the steps before it left, and the machine with
-- its applications is the state after the last. It is given where one of the steps is a load, and all that applications keep
-- holds of it. No other text is the lines of these steps: so the text is a function of the steps.
pub record AreDone (steps : List Step) (apps : Option Host) (text : List ℕ) : Type 0 where
  pub answers : AreAnswered steps text apps
  pub given : is_some apps ≡ list_any is_load steps
  pub hold : IfSome apps AreApps
  pub only : HaveOneText steps text

-- ---- all words

-- What a call makes. The words are one of a job, and it makes this of its job. Or they are `check`; all bytes that the source had
-- left are a request; the text is the answer to it, and no part is given. Or they are `apps`; all bytes that the source had left
-- are steps; they are done, and no part is given. Only then are applications given.
pub data IsMade (words : List (List ℕ)) (reading : Reading) (parts : Parts) (apps : Option Host) (text : List ℕ) : Type 0 where
  from_job : IsMadeOfJob words reading parts text → apps ≡ None → IsMade words reading parts apps text
  checked : AskForCheck words → (request : Request) → IsReadAs request_in reading request → IsChecked request text → parts ≡ no_parts → apps ≡ None → IsMade words reading parts apps text
  done : AskForApps words → (steps : List Step) → IsReadAs steps_in reading steps → AreDone steps apps text → parts ≡ no_parts → IsMade words reading parts apps text
