use Rattle.run_report.proofs.Common.{core_waits, gathered, take, ◌++◌, ◌≡◌}
use Rattle.run_report.proofs.waits.put_cores.Given as goal

abbrev pub invariant-loop-vertex : goal.invariant-loop-vertex
invariant-loop-vertex l = l.waiting.items ≡ l.fn.waiting.items ++ gathered (core_waits l.numbered.mesh.now) 0 (take l.vertex l.numbered.mesh.now.setup.spots)
