use Rattle.link_detours.proofs.Spreading.{SpreadTo}
use Rattle.link_detours.proofs.sets.spread_word.Given as goal

-- the chips from which the links so far lead to the set
abbrev pub invariant-loop-d : goal.invariant-loop-d
invariant-loop-d l = SpreadTo l.column.front.ground.machine.now l.column.front.set.now l.column.x l.word l.d-index
