use Rattle.mesh_core.proofs.EventsLaw.{put_back_keeps, put_back_keeps_for, put_back_keeps_job}
use Rattle.mesh_core.proofs.laws.putting_back_keeps_the_ledger.Goals as goal

pub returns-clause-of_nets : goal.returns-clause-of_nets
returns-clause-of_nets c = λ s nets labels mesh right ledger. (put_back_keeps s nets labels mesh right ledger).ledger

pub returns-clause-of_asked : goal.returns-clause-of_asked
returns-clause-of_asked c = λ s nets asked mesh right ledger. put_back_keeps_for s nets asked mesh right ledger

pub returns-clause-of_job : goal.returns-clause-of_job
returns-clause-of_job c = λ s nets packets mesh right job. put_back_keeps_job s nets packets mesh right job
