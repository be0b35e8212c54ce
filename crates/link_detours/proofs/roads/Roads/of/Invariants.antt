use Rattle.link_detours.proofs.RoadBits.{RoadsTo}
use Rattle.link_detours.proofs.roads.Roads.of.Given as goal

-- the words so far tell of their links
abbrev pub invariant-loop-place : goal.invariant-loop-place
invariant-loop-place l = RoadsTo l.machine l.words.items l.place
