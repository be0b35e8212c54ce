use Rattle.mesh_run.proofs.CrossingLaws.{DealtTo}
use Rattle.mesh_run.proofs.crossing.deal.Given as goal

-- the ends of the links so far were dealt
abbrev pub invariant-loop-number : goal.invariant-loop-number
invariant-loop-number l = DealtTo l.cuts l.fn.standing l.fn.shares.items l.number l.standing l.shares.items
