-- What the private functions make.
use Rattle.std.specs.Prelude.{ℕ, List}
use Rattle.job_readers.specs.declared.jobs.Job.{Job}
use Rattle.par_compile.specs.declared.compiling.Plan.{Plan}
use Rattle.spin_jobs.specs.declared.outcomes.WordOutput.{WordOutput}
use Rattle.spin_jobs.specs.declared.outcomes.Parts.{Parts}
use Rattle.spin_jobs.specs.Parts.{parts_with}
use Rattle.spin_jobs.specs.Planned.{JobWithPlan}

-- what is told of a job with its plan is so: the parts of the outcome, and the whole text
abbrev pub IsOutputAs : (Job → Plan → Parts → List ℕ → Type 0) → JobWithPlan → WordOutput → Type 0
IsOutputAs P p told = P p.job p.plan (parts_with p.job p.plan told.mesh told.report) told.text
