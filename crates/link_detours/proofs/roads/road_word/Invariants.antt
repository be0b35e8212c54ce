use Rattle.link_detours.proofs.RoadBits.{TellsTo}
use Rattle.link_detours.proofs.roads.road_word.Given as goal

-- the word tells of the chips so far
abbrev pub invariant-loop-y : goal.invariant-loop-y
invariant-loop-y l = TellsTo l.machine l.x l.d l.word l.y
