use Rattle.mesh_drain.proofs.Common.{Inject, IsReachedOnward, WaitsAlone, after_event, work}
use Rattle.mesh_drain.proofs.draining.send_packet.Given as goal

abbrev pub invariant-loop-next : goal.invariant-loop-next
invariant-loop-next l = record {
  onward : IsReachedOnward (after_event l.fn.mesh (Inject l.vertex)) l.mesh;
  under_way : WaitsAlone l.mesh l.waiting.items;
}

abbrev pub decreases-loop-next : goal.decreases-loop-next
decreases-loop-next l = work l.mesh l.waiting.items
