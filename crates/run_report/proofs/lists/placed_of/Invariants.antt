use Rattle.run_report.proofs.Common.{take, vertex_names, zip, ◌≡◌}
use Rattle.run_report.proofs.lists.placed_of.Given as goal

abbrev pub invariant-loop-i : goal.invariant-loop-i
invariant-loop-i l = l.placed ≡ zip (take l.i (vertex_names l.planned.graph.now.vertices)) (take l.i l.planned.spots.now)
