use Rattle.ner_trees.proofs.Common.{IfSome, IsBetter, IsOnWithin, None}
use Rattle.ner_trees.proofs.Searching.{Stepped}
use Rattle.ner_trees.proofs.searches.nearest_on_ring.Given as goal

-- of the chips of the ring so far, the nearest
abbrev pub invariant-loop-step : goal.invariant-loop-step
invariant-loop-step l =
    IfSome l.best (IsOnWithin l.ring.search.on.now.machine.now l.ring.search.on.now.items.items l.ring.search.target l.ring.radius.chips)
    × IsBetter l.ring.search.on.now.machine.now l.ring.search.on.now.items.items l.ring.search.target l.ring.radius.chips
    (Stepped l.ring.search.on.now.machine.now l.ring.search.on.now.items.items l.ring.search.target l.ring.radius.chips l.step) None l.best
