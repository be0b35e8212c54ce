use Rattle.mesh_run.proofs.Common.{length}
use Rattle.mesh_run.proofs.SplitLaws.{OutTo, UnsentOutTo}
use Rattle.mesh_run.proofs.splitting.move_out.Given as goal

-- the lanes so far moved out
abbrev pub invariant-loop-place : goal.invariant-loop-place
invariant-loop-place l = OutTo l.fn.parts l.homes l.fn.shares.items l.place l.parts l.shares.items

-- and what the vertices so far did not send
abbrev pub invariant-loop-vertex : goal.invariant-loop-vertex
invariant-loop-vertex l = UnsentOutTo (length l.fn.parts.inputs) l.initial.parts l.homes l.initial.shares.items l.vertex l.parts l.shares.items
