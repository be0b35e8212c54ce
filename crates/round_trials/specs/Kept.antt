-- What the mesh of a job keeps.
use Rattle.mesh_core.specs.State.{State}
use Rattle.mesh_core.specs.Opened.{MeetsJobLedger}
use Rattle.job_readers.specs.declared.jobs.Job.{Job}
use Rattle.par_compile.specs.declared.compiling.Plan.{Plan}
use Rattle.run_report.specs.declared.reports.Report.{Report}

-- the mesh keeps the ledger of the job
abbrev pub KeepsLedger : Job → Plan → State → Report → Type 0
KeepsLedger job plan mesh report = MeetsJobLedger mesh plan.nets job.run.packets
