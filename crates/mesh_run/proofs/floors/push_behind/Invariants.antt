use Rattle.mesh_run.proofs.Common.{AddsBehind}
use Rattle.mesh_run.proofs.floors.push_behind.Given as goal

-- the queues behind the outputs so far
abbrev pub invariant-loop-number : goal.invariant-loop-number
invariant-loop-number l = AddsBehind l.setup l.chip l.number l.fn.list.items l.list.items
