-- The laws, as the lemmas say them.
use Rattle.job_gen.proofs.{DrawnLaws.is_drawn, JobReading.generated_clean, JobReading.generated_is, Written.generated_text_is_read}
use Rattle.job_gen.proofs.laws.generated_jobs_are_read.Goals as goal

pub returns : goal.returns
returns c = record { drawn = is_drawn; text = generated_text_is_read; no_fault = generated_clean; job = generated_is }
