-- The laws, as the lemmas say them.
use Rattle.job_gen.proofs.Joined.{live_chips, joined}
use Rattle.job_gen.proofs.fits.the_board_is_joined.Goals as goal

pub returns : goal.returns
returns c = record { chips = live_chips; joined = joined }
