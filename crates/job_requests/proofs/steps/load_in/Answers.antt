use Rattle.job_requests.proofs.Common.{arith}
use Rattle.job_requests.proofs.Versions.{job_of_cores}
use Rattle.job_requests.proofs.steps.load_in.Goals as goal

pub returns-clause-valid : goal.returns-clause-valid
returns-clause-valid c = grind (arith, job_of_cores)
