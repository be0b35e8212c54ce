use Rattle.mesh_run.proofs.CrossingLaws.{CollectedTo}
use Rattle.mesh_run.proofs.crossing.collect.Given as goal

-- the ends of the links so far were collected
abbrev pub invariant-loop-number : goal.invariant-loop-number
invariant-loop-number l = CollectedTo l.cuts l.fn.standing l.fn.shares.items l.number l.standing l.shares.items
