-- So far there are as many empty queues as were made.
use Rattle.mesh_core.proofs.Common.{[], replicate, ◌≡◌}
use Rattle.mesh_core.proofs.queues.empty_queues.Given as goal

abbrev pub invariant-loop : goal.invariant-loop
invariant-loop l = l.queues.items ≡ replicate l.counter []
