use Rattle.job_readers.proofs.Common.{arith, sym}
use Rattle.job_readers.proofs.PlaceSteps.{place_in-below}
use Rattle.job_readers.proofs.names.reference.Goals as goal

pub returns-in-Some-clause-below : goal.returns-in-Some-clause-below
returns-in-Some-clause-below c = grind (arith, place_in-below c.args.names.now c.in_ok-said.said.now c.in-Some.i (sym c.in-Some.ensures))
