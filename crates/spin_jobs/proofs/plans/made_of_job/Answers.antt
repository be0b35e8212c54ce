use Rattle.spin_jobs.proofs.Common.{arith}
use Rattle.spin_jobs.proofs.Exclusive.{no_plan_by_name}
use Rattle.spin_jobs.proofs.plans.made_of_job.Goals as goal

pub returns-in-Err-clause-err : goal.returns-in-Err-clause-err
returns-in-Err-clause-err g c = grind (arith, no_plan_by_name c.args.job c.in-Err.cause c.name_in-name.result c.refusal_of.result c.in-Err.ensures.cause c.name_in-name.ensures c.refusal_of.ensures)

pub returns-clause-made : goal.returns-clause-made
returns-clause-made g c = record { plan = c.in-Ok.plan; planned = (c.in-Ok.ensures.plan, c.in-Ok.ensures.only); makes = c.in-Ok-make.ensures c.requires.generated }
