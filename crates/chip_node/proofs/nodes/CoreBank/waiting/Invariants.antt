use Rattle.chip_node.proofs.Common.{[], get_or, slice_index_or, ℕ, ◌≡◌}
use Rattle.chip_node.proofs.GoingRound.{GoneBy}
use Rattle.chip_node.proofs.nodes.CoreBank.waiting.Given as goal

-- the vertices so far have no unsent copy
abbrev pub invariant-loop-step : goal.invariant-loop-step
invariant-loop-step l =
    GoneBy (λ j. (d : ℕ) → slice_index_or l.hold.unsent.items (get_or l.self.vertices.items j d) [] ≡ []) l.ring.start l.ring.count l.step
