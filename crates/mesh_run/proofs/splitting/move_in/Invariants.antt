use Rattle.mesh_run.proofs.Common.{AreSameHolds, length}
use Rattle.mesh_run.proofs.SplitLaws.{LanesTo, VerticesTo}
use Rattle.mesh_run.proofs.splitting.move_in.Given as goal

-- the queues so far moved in
abbrev pub invariant-loop-place : goal.invariant-loop-place
invariant-loop-place l = LanesTo l.fn.parts l.homes l.fn.shares.items l.place l.parts l.shares.items

-- and what the vertices so far did not send
abbrev pub invariant-loop-vertex : goal.invariant-loop-vertex
invariant-loop-vertex l = VerticesTo (length l.fn.parts.inputs) l.fn.parts l.homes l.initial.shares.items l.vertex l.parts l.shares.items

-- nothing else moves
abbrev pub invariant-loop-cut : goal.invariant-loop-cut
invariant-loop-cut l = AreSameHolds l.initial.shares.items l.shares.items
