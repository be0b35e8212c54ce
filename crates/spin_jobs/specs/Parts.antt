-- The parts of an outcome (this project's own).
use Rattle.std.specs.Prelude.{Option, Some, None, IfSome}
use Rattle.mesh_core.specs.State.{State}
use Rattle.job_readers.specs.declared.jobs.Job.{Job}
use Rattle.run_report.specs.declared.reports.Report.{Report}
use Rattle.par_compile.specs.declared.compiling.Plan.{Plan}
use Rattle.spin_jobs.specs.declared.outcomes.Parts.{Parts}

abbrev pub no_parts : Parts
no_parts = record { job = None; plan = None; mesh = None; report = None }

abbrev pub plan_parts : Job → Plan → Parts
plan_parts job plan = record { job = Some job; plan = Some plan; mesh = None; report = None }

abbrev pub run_parts : Job → Plan → State → Report → Parts
run_parts job plan mesh report = record { job = Some job; plan = Some plan; mesh = Some mesh; report = Some report }

-- job and plan, and the mesh and the report that a word made of them
abbrev pub parts_with : Job → Plan → Option State → Option Report → Parts
parts_with job plan mesh report = record { job = Some job; plan = Some plan; mesh = mesh; report = report }

-- what holds of the job and plan, where they are given
abbrev pub WhereGiven : Parts → (Job → Plan → Type 0) → Type 0
WhereGiven p P = IfSome p.job (λ job. IfSome p.plan (λ plan. P job plan))

-- what holds of the job, plan, mesh and report, where they are given
abbrev pub WhereRun : Parts → (Job → Plan → State → Report → Type 0) → Type 0
WhereRun p P = WhereGiven p (λ job plan. IfSome p.mesh (λ mesh. IfSome p.report (λ report. P job plan mesh report)))
