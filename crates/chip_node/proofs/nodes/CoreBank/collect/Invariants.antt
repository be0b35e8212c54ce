use Rattle.chip_node.proofs.Common.{IsIdleAt, IsReadyBank, Stays, get_or, ℕ, ◌+◌}
use Rattle.chip_node.proofs.GoingRound.{GoneBy}
use Rattle.chip_node.proofs.nodes.CoreBank.collect.Given as goal

-- nothing was done so far, since nothing was there for the vertices so far
abbrev pub invariant-loop-step : goal.invariant-loop-step
invariant-loop-step g l = record {
  stays : Stays l.fn.hold l.hold;
  ready : IsReadyBank l.around.links.now l.self l.hold;
  idle : GoneBy (λ j. (d : ℕ) → IsIdleAt l.fn.hold.ends.items (l.self.cores + get_or l.self.vertices.items j d)) l.ring.start l.ring.count l.step;
}
