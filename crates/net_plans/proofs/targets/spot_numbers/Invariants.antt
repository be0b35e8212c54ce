use Rattle.net_plans.proofs.Common.{AreNumbersOf, take}
use Rattle.net_plans.proofs.TargetLaws.{cores_of}
use Rattle.net_plans.proofs.targets.spot_numbers.Given as goal

-- the numbers of the vertices so far
abbrev pub invariant-loop-i : goal.invariant-loop-i
invariant-loop-i l = AreNumbersOf (cores_of l.targets.spots.now (take l.i l.targets.vertices.now)) l.numbers.items
