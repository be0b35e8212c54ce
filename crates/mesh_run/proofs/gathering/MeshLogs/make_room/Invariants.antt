use Rattle.mesh_run.proofs.Common.{Share, sum_by, take, ◌≡◌}
use Rattle.mesh_run.proofs.gathering.MeshLogs.make_room.Given as goal

-- the room of the shares so far
abbrev pub invariant-loop-share : goal.invariant-loop-share
invariant-loop-share l = record {
  deliveries : l.deliveries ≡ sum_by (λ (s : Share). s.hold.deliveries.spare) (take l.share-index l.shares);
  dumps : l.dumps ≡ sum_by (λ (s : Share). s.hold.dumps.spare) (take l.share-index l.shares);
}
