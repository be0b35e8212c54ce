-- The walk has come up the branch by a step each time.
use Rattle.mesh_core.proofs.WalkingUp.{Walked}
use Rattle.mesh_core.proofs.meshes.Mesh.where_is.Given as goal

abbrev pub invariant-loop : goal.invariant-loop
invariant-loop l = Walked l.self l.net l.packet l.fn.target l.counter l.chip l.out
