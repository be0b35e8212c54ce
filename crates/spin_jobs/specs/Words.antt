-- What each word makes of a job (this project's own).
use Rattle.std.specs.Prelude.{◌≡◌, ℕ, List, length, map, take}
use Rattle.spin_base.specs.declared.blocks.Entry.{Entry}
use Rattle.machine_desc.specs.RightTables.{AreRight}
use Rattle.mesh_core.specs.State.{State}
use Rattle.mesh_core.specs.Step.{after_events, answers_of}
use Rattle.mesh_core.specs.Opened.{MeetsJobLedger}
use Rattle.mesh_core.specs.Expected.{expected_count}
use Rattle.mesh_core.specs.declared.places.Did.{Did}
use Rattle.job_readers.specs.declared.jobs.Job.{Job}
use Rattle.run_report.specs.declared.reports.Report.{Report}
use Rattle.run_report.specs.ReportText.{plan_text, report_text, summary_text}
use Rattle.run_report.specs.RunReport.{IsReportOf}
use Rattle.par_compile.specs.declared.compiling.Plan.{Plan}
use Rattle.par_compile.specs.Finals.{loaded_of}
use Rattle.par_compile.specs.Imaging.{AreFilledFrom}
use Rattle.table_load.specs.Images.{Spells}
use Rattle.spin_words.specs.declared.commands.JobWord.{JobWord}
use Rattle.spin_words.specs.declared.commands.JobWord.TheVariants.{Run, Reinject, Trace, Compile, Tables, Gen}
use Rattle.spin_jobs.specs.declared.outcomes.Parts.{Parts}
use Rattle.spin_jobs.specs.Parts.{plan_parts, run_parts}
use Rattle.spin_jobs.specs.Planned.{tables_image, opened_of, IsThePlan}
use Rattle.spin_jobs.specs.Reinjecting.{HasReinjected}
use Rattle.spin_jobs.specs.Runs.{HasRunOut}

-- the report of a job's plan, of a mesh, and of the answers to events that led there
abbrev pub IsReported : Job → Plan → State → List Did → Report → Type 0
IsReported job plan mesh did report = IsReportOf job.graph plan.placement.spots plan.nets (tables_image job plan).chips mesh did report

-- all four parts are given, with this mesh and its report after events with these answers, and the text is that of the report.
abbrev pub TellsRun : Job → Plan → State → List Did → Parts → List ℕ → Type 0
TellsRun job plan mesh did parts text = (report : Report) × IsReported job plan mesh did report
    × (parts ≡ run_parts job plan mesh report) × (text ≡ report_text report)

-- `trace`: the mesh is the opened one after all events of the job, one by one. The report tells the answers to them, and
-- after each number of them the mesh keeps the ledger.
pub record IsTraced (job : Job) (plan : Plan) (mesh : State) (report : Report) : Type 0 where
  pub reached : mesh ≡ after_events (opened_of job plan) job.run.events
  pub answered : report.did ≡ answers_of (opened_of job plan) job.run.events
  pub each : (n : ℕ) → MeetsJobLedger (after_events (opened_of job plan) (take n job.run.events)) plan.nets job.run.packets

-- The mesh of a job keeps the ledger, and the report is that of the mesh.
pub record IsRunKept (job : Job) (plan : Plan) (mesh : State) (report : Report) : Type 0 where
  pub ledger : MeetsJobLedger mesh plan.nets job.run.packets
  pub reported : IsReported job plan mesh report.did report

-- All four parts are given, as is said of them, and the text is that of the report.
abbrev pub Reports : (Job → Plan → State → Report → Type 0) → Job → Plan → Parts → List ℕ → Type 0
Reports P job plan parts text = (mesh : State) × (report : Report) × IsRunKept job plan mesh report × P job plan mesh report
    × (parts ≡ run_parts job plan mesh report) × (text ≡ report_text report)

-- The same for the job of a number, and the text is its summary. It tells as many deliveries as the job's packets have
-- targets, and no dump.
pub record IsSummary (n : ℕ) (job : Job) (plan : Plan) (report : Report) (text : List ℕ) : Type 0 where
  pub summary : text ≡ summary_text n job.machine job.graph job.run report
  pub delivered : length report.delivered ≡ expected_count plan.nets job.run.packets
  pub dumped : length report.dumped ≡ 0

abbrev pub Summarises : ℕ → Job → Plan → Parts → List ℕ → Type 0
Summarises n job plan parts text = (mesh : State) × (report : Report) × IsRunKept job plan mesh report × HasRunOut job plan mesh report
    × (parts ≡ run_parts job plan mesh report) × IsSummary n job plan report text

-- Job and plan are given, and the text is that of the plan.
abbrev pub Lists : Job → Plan → Parts → List ℕ → Type 0
Lists job plan parts text = (parts ≡ plan_parts job plan)
    × (text ≡ plan_text job.graph plan.placement.spots plan.nets (tables_image job plan).chips)

-- Job and plan are given, and the text is the bytes that spell the image of the plan's tables. From these bytes a loader fills
-- the memories of these tables, each with the chip's kept rows and unused entries after them. It can fill no other memories, and
-- so what it fills is right for all nets of the plan.
pub record Images (job : Job) (plan : Plan) (parts : Parts) (text : List ℕ) : Type 0 where
  pub given : parts ≡ plan_parts job plan
  pub spelled : Spells (tables_image job plan) text
  pub filled : AreFilledFrom text (map loaded_of plan.tables)
  pub only : (memories : List (List Entry)) → AreFilledFrom text memories → memories ≡ map loaded_of plan.tables
  pub right : (memories : List (List Entry)) → AreFilledFrom text memories → AreRight job.machine memories plan.nets

-- What a word makes of a planned job, a constructor a word: the parts of the outcome, and the whole text.
pub data Makes (w : JobWord) (job : Job) (plan : Plan) (parts : Parts) (text : List ℕ) : Type 0 where
  ran : w ≡ Run → Reports HasRunOut job plan parts text → Makes w job plan parts text
  reinjected : w ≡ Reinject → Reports HasReinjected job plan parts text → Makes w job plan parts text
  traced : w ≡ Trace → Reports IsTraced job plan parts text → Makes w job plan parts text
  imaged : w ≡ Compile → Images job plan parts text → Makes w job plan parts text
  listed : w ≡ Tables → Lists job plan parts text → Makes w job plan parts text
  generated : (n : ℕ) → w ≡ Gen n → Summarises n job plan parts text → Makes w job plan parts text

-- What a word makes of a job: the job has a plan, and no other one, and the word makes this of them.
pub record IsMadeOf (w : JobWord) (job : Job) (parts : Parts) (text : List ℕ) : Type 0 where
  pub plan : Plan
  pub planned : IsThePlan job plan
  pub makes : Makes w job plan parts text
