-- Steps whose jobs are valid, and of which the first load has its machine (this project's own).
use Rattle.std.specs.Prelude.{◌≡◌, List, [], ◌∷◌, None, All, is_some, true}
use Rattle.app_graph.specs.declared.graphs.Vertex.{Vertex}
use Rattle.app_graph.specs.ValidGraph.{IsValidGraph}
use Rattle.app_graph.specs.RunPart.{IsRunOf}
use Rattle.job_readers.specs.Named.{HasNamesApart}
use Rattle.job_requests.specs.declared.steps.AppJob.{AppJob}
use Rattle.job_requests.specs.declared.steps.Step.{Step}
use Rattle.job_requests.specs.declared.steps.Step.TheVariants.{Load, Unload, Run}

-- a job whose graph is valid and has no name twice and no device, and whose run part is one of the graph
pub record IsValidJob (job : AppJob) : Type 0 where
  pub graph : IsValidGraph job.graph
  pub names : HasNamesApart job.graph
  pub cores : All (λ (v : Vertex). v.device ≡ None) job.graph.vertices
  pub run : IsRunOf job.graph job.run

-- the job of a load is valid
abbrev pub IsValidStep : Step → Type 0
IsValidStep (Load n job) = IsValidJob job
IsValidStep (Unload n) = Unit {0}
IsValidStep Run = Unit {0}

-- the first load, if there is one, has its machine
abbrev pub HasFirstMachine : List Step → Type 0
HasFirstMachine [] = Unit {0}
HasFirstMachine (Load n job ∷ steps) = is_some job.machine ≡ true
HasFirstMachine (Unload n ∷ steps) = HasFirstMachine steps
HasFirstMachine (Run ∷ steps) = HasFirstMachine steps
