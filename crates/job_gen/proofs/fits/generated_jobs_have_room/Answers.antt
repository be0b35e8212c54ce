-- The laws, as the lemmas say them.
use Rattle.job_gen.proofs.Fitting.{gen_room, gen_keys, gen_joined}
use Rattle.job_gen.proofs.fits.generated_jobs_have_room.Goals as goal

pub returns : goal.returns
returns c = record { room = gen_room; keys = gen_keys; joined = gen_joined }
