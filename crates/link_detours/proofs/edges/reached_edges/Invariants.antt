use Rattle.link_detours.proofs.Common.{filter, is_marked, take, ◌≡◌}
use Rattle.link_detours.proofs.edges.reached_edges.Given as goal

abbrev pub invariant-loop-edge : goal.invariant-loop-edge
invariant-loop-edge l = l.reached.items ≡ filter (λ e. is_marked l.marked.edges.machine.now l.marked.marks.now e.chip) (take l.edge-index l.marked.edges.list.now)
