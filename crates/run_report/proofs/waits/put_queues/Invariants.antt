use Rattle.run_report.proofs.Common.{flat_map, queue_waits, take, ◌++◌, ◌≡◌}
use Rattle.run_report.proofs.waits.put_queues.Given as goal

-- what waits at the ports so far is there
abbrev pub invariant-loop-port : goal.invariant-loop-port
invariant-loop-port l = l.waiting.items ≡ l.fn.waiting.items ++ flat_map (queue_waits l.here.mesh.now l.here.chip) (take l.port-index l.ports)
