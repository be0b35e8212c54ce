-- The plan of a job, and what the mesh takes from it.
use Rattle.std.specs.Prelude.{◌≡◌, map}
use Rattle.table_load.specs.declared.tables.Image.{Image}
use Rattle.mesh_core.specs.State.{Setup, State, IsMesh}
use Rattle.mesh_core.specs.Opened.{opened_mesh, MeetsJobLedger}
use Rattle.app_graph.specs.RunPart.{IsRunOf}
use Rattle.app_graph.specs.ValidGraph.{IsValidGraph}
use Rattle.job_readers.specs.declared.jobs.Job.{Job}
use Rattle.par_compile.specs.declared.compiling.Plan.{Plan}
use Rattle.par_compile.specs.Compiled.{IsPlanOf}
use Rattle.par_compile.specs.Finals.{loaded_of}
use Rattle.par_compile.specs.Imaging.{image_in}

-- a plan of a job is one of its graph on its machine, whose tables are covered down to the job's number of rows
abbrev pub IsPlanOfJob : Job → Plan → Type 0
IsPlanOfJob job plan = IsPlanOf job.machine job.graph job.run.target plan

-- the plan of a job is one, and the only one
abbrev pub IsThePlan : Job → Plan → Type 0
IsThePlan job plan = IsPlanOfJob job plan × ((other : Plan) → IsPlanOfJob job other → other ≡ plan)

-- a job with its plan
pub record JobWithPlan : Type 0 where
  pub job : Job
  pub plan : Plan

-- The job's graph is valid, its run part is one of the graph, and the plan is one of the job.
pub record IsValidWithPlan (job : Job) (plan : Plan) : Type 0 where
  pub graph : IsValidGraph job.graph
  pub run : IsRunOf job.graph job.run
  pub planned : IsPlanOfJob job plan

-- the image of a plan's tables: the kept rows of each chip that has any
abbrev pub tables_image : Job → Plan → Image
tables_image job plan = image_in job.machine plan.tables

-- what the mesh of a job never changes: the job's machine, the plan's spots, its tables as they are loaded, and the capacity of
-- queues
abbrev pub setup_of : Job → Plan → Setup
setup_of job plan = record {
  machine = job.machine;
  spots = plan.placement.spots;
  tables = map loaded_of plan.tables;
  capacity = job.run.queue;
}

-- the opened mesh of a job: nothing waits, and each packet is unsent at its net's source
abbrev pub opened_of : Job → Plan → State
opened_of job plan = opened_mesh (setup_of job plan) plan.nets job.run.packets

-- A mesh of a job: it is a mesh, has the setup of the job's plan, and keeps the job's ledger.
pub record IsMeshOf (job : Job) (plan : Plan) (mesh : State) : Type 0 where
  pub is_mesh : IsMesh mesh
  pub setup : mesh.setup ≡ setup_of job plan
  pub ledger : MeetsJobLedger mesh plan.nets job.run.packets
