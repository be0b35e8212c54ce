use Rattle.app_loads.proofs.Common.{AreTaken, Description, HaveRoom, List, Range, drop}
use Rattle.app_loads.proofs.regions.give_all.Given as goal

-- the ranges that are left are taken still
abbrev pub invariant-loop-range : goal.invariant-loop-range
invariant-loop-range l = record {
  room : HaveRoom (drop l.range-index l.ranges) l.regions;
  taken : (m : Description) (others : List Range) → AreTaken m others l.ranges l.fn.regions → AreTaken m others (drop l.range-index l.ranges) l.regions;
}
