use Rattle.spin_jobs.proofs.Common.{arith}
use Rattle.spin_jobs.proofs.AtRest.{reported_of}
use Rattle.spin_jobs.proofs.makes.reported.Goals as goal

pub report_of-requires : goal.report_of-requires
report_of-requires c = grind arith

pub returns : goal.returns
returns c = grind (arith, reported_of)
