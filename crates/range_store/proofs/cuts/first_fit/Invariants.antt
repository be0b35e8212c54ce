use Rattle.range_store.proofs.Common.{HasNoFitFrom, take}
use Rattle.range_store.proofs.cuts.first_fit.Given as goal

-- none of the holes before has a fit
abbrev pub invariant-loop-at : goal.invariant-loop-at
invariant-loop-at l = HasNoFitFrom (take l.at l.holes.list.now) l.claim.from l.claim.size l.claim.align
