-- Runs of a job by rounds between which dumped copies are put back (this project's own).
use Rattle.std.specs.Prelude.{◌≡◌, []}
use Rattle.mesh_core.specs.State.{State, IsMesh}
use Rattle.mesh_core.specs.Opened.{MeetsJobLedger}
use Rattle.mesh_core.specs.Expected.{IsAtRest}
use Rattle.mesh_core.specs.PutBack.{after_put_back}
use Rattle.mesh_round.specs.RoundFlow.{Flow, IsRound}
use Rattle.run_report.specs.declared.reports.Report.{Report}
use Rattle.par_compile.specs.declared.compiling.Plan.{Plan}
use Rattle.job_readers.specs.declared.jobs.Job.{Job}
use Rattle.spin_jobs.specs.Planned.{opened_of}
use Rattle.spin_jobs.specs.Runs.{HasLostNothing}

-- A mesh is reached from the opened mesh of a job by rounds of the job's patience and turns, each from a mesh to a mesh, and by
-- putting the first dumped copy back, in any order, and keeps the job's ledger at first and after each of these.
pub data HasKeptPasses (job : Job) (plan : Plan) : State → Type 0 where
  opened : MeetsJobLedger (opened_of job plan) plan.nets job.run.packets → HasKeptPasses job plan (opened_of job plan)
  round : (flow : Flow) (m n : State) → HasKeptPasses job plan m → IsMesh n → IsRound job.run.patience job.run.turns m flow n →
      MeetsJobLedger n plan.nets job.run.packets → HasKeptPasses job plan n
  put_back : (m : State) → HasKeptPasses job plan m → MeetsJobLedger (after_put_back m) plan.nets job.run.packets → HasKeptPasses job plan (after_put_back m)

-- `reinject`: the mesh is reached by rounds and copies put back, after each of which it keeps the ledger; at the end nothing waits
-- and nothing is unsent; the report tells no events; and nothing is lost, however small the queues are.
pub record HasReinjected (job : Job) (plan : Plan) (mesh : State) (report : Report) : Type 0 where
  pub reached : HasKeptPasses job plan mesh
  pub at_rest : IsAtRest mesh
  pub no_event : report.did ≡ []
  pub lost_nothing : HasLostNothing job plan mesh report
