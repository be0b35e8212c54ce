use Rattle.spin_jobs.proofs.Common.{arith}
use Rattle.spin_jobs.proofs.Running.{by_passes, kept_passes}
use Rattle.spin_jobs.proofs.runs.passes_of_a_job.Goals as goal

pub returns : goal.returns
returns c = grind (arith, kept_passes, by_passes)
