use Rattle.link_detours.proofs.Common.{arith}
use Rattle.link_detours.proofs.{RoadBits.TellsTo-set, RoadBits.TellsTo-skip, roads.road_word.Goals.then-link_live, roads.road_word.Goals.else-link_live}
use Rattle.link_detours.proofs.roads.road_word.Goals as goal

pub loop-y-preserved : goal.loop-y-preserved
loop-y-preserved c = grind (arith, then-link_live, TellsTo-set, else-link_live, TellsTo-skip)
