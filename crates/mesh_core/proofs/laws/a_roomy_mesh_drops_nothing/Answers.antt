use Rattle.mesh_core.proofs.{NoDump.no_dump, OnlyUnderWay.of_job, RoomyRuns.records_after}
use Rattle.mesh_core.proofs.laws.a_roomy_mesh_drops_nothing.Goals as goal

pub returns-clause-idle : goal.returns-clause-idle
returns-clause-idle c = λ s nets labels numbers chip out mesh ledger only roomy. no_dump s nets labels numbers mesh ledger only roomy chip out

pub returns-clause-no_record : goal.returns-clause-no_record
returns-clause-no_record c = λ s nets labels numbers events mesh right ledger only roomy. records_after nets labels numbers s mesh right ledger only roomy events

pub returns-clause-of_job : goal.returns-clause-of_job
returns-clause-of_job c = of_job
