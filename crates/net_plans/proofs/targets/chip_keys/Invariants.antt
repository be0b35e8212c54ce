use Rattle.net_plans.proofs.Common.{AreChipKeys, take}
use Rattle.net_plans.proofs.targets.chip_keys.Given as goal

abbrev pub invariant-loop-i : goal.invariant-loop-i
invariant-loop-i l = AreChipKeys l.ends.machine.now l.ends.root (take l.i l.ends.targets.now) l.keys.items
