use Rattle.chip_node.proofs.Common.{IsOutEndOf, RefusesOffers, sending, ◌≡◌}
use Rattle.chip_node.proofs.ends.OutEnd.send.Given as goal

-- all offers so far were refused
abbrev pub invariant-loop : goal.invariant-loop
invariant-loop g l =
    IsOutEndOf l.links l.self × (l.self.link ≡ l.fn.self.link) × RefusesOffers l.counter (sending l.fn.self.tx) (sending l.self.tx)
