use Rattle.spin_top.proofs.Generating.{is_generated, only_memory}
use Rattle.spin_top.proofs.inputs.generated_job.Goals as goal

pub returns-in-Ok-job_of_text-clause-job : goal.returns-in-Ok-job_of_text-clause-job
returns-in-Ok-job_of_text-clause-job c = is_generated c.args.number c.in-Ok.text c.as_slice.result.now c.in-Ok-job_of_text.job c.in-Ok.ensures.reads_back c.as_slice.ensures c.in-Ok-job_of_text.ensures.job

pub returns-clause-err : goal.returns-clause-err
returns-clause-err c = only_memory c.args.number c.in-Ok.text c.as_slice.result.now c.in-Err-job_of_text.refusal c.in-Ok.ensures.reads_back c.as_slice.ensures c.in-Err-job_of_text.ensures.err
