use Rattle.mesh_run.proofs.Lowering.{QueuesBackTo}
use Rattle.mesh_run.proofs.raised.RaisedMesh.lower.Given as goal

-- the queues of the links so far stand in the mesh again
abbrev pub invariant-loop-number : goal.invariant-loop-number
invariant-loop-number g l = QueuesBackTo l.initial.parts l.layout.cuts.items l.initial.crossing.items l.number l.parts l.crossing.items
