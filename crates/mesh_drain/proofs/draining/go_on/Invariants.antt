use Rattle.mesh_drain.proofs.Common.{IsReachedOnward, IsServing, drop, work, ◌≤◌}
use Rattle.mesh_drain.proofs.draining.go_on.Given as goal

-- the outputs from here on are still to be served
abbrev pub invariant-loop-out : goal.invariant-loop-out
invariant-loop-out l = record {
  reached : IsReachedOnward l.fn.mesh l.mesh;
  serving : IsServing l.mesh l.waiting.items l.at.chip (drop l.out-index l.out-items);
  less : work l.mesh l.waiting.items ≤ work l.fn.mesh l.fn.waiting.items;
}
