use Rattle.mesh_core.proofs.EventsLaw.{events_keep, events_keep_for, events_keep_job}
use Rattle.mesh_core.proofs.laws.events_keep_the_ledger.Goals as goal

pub returns-clause-of_nets : goal.returns-clause-of_nets
returns-clause-of_nets c = λ s nets labels events mesh right ledger. (events_keep s nets labels mesh right ledger events).ledger

pub returns-clause-of_asked : goal.returns-clause-of_asked
returns-clause-of_asked c = λ s nets asked events mesh right ledger. events_keep_for s nets asked mesh right ledger events

pub returns-clause-of_job : goal.returns-clause-of_job
returns-clause-of_job c = λ s nets packets events mesh right job. events_keep_job s nets packets mesh right job events
