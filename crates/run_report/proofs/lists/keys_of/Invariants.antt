use Rattle.run_report.proofs.Common.{Net, NetPlan, map, take, zip, ◌≡◌}
use Rattle.run_report.proofs.lists.keys_of.Given as goal

abbrev pub invariant-loop-i : goal.invariant-loop-i
invariant-loop-i l = l.keys ≡ zip (take l.i (map (λ (net : Net). net.name) l.planned.graph.now.nets)) (take l.i (map (λ (net : NetPlan). net.block) l.planned.nets.now))
