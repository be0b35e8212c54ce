-- So far there are as many empty hands as were made.
use Rattle.mesh_core.proofs.Common.{None, replicate, ◌≡◌}
use Rattle.mesh_core.proofs.hands.empty_hands.Given as goal

abbrev pub invariant-loop : goal.invariant-loop
invariant-loop l = l.hands.items ≡ replicate l.counter None
