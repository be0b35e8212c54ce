-- No edge so far leads into the chip.
use Rattle.mesh_core.proofs.Common.{Edge, Some, end_of, get_or, ℕ, ◌<◌, ◌≢◌}
use Rattle.mesh_core.proofs.whereabouts.edge_into.Given as goal

abbrev pub invariant-loop-edge : goal.invariant-loop-edge
invariant-loop-edge l = (k : ℕ) (d : Edge) → k < l.edge-index → end_of l.machine (get_or l.edges k d) ≢ Some l.chip
