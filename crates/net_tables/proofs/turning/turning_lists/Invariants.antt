use Rattle.net_tables.proofs.Common.{List, NetPlan, drop, length, ◌*◌, ◌++◌, ◌-◌, ◌≡◌, ◌≤◌}
use Rattle.net_tables.proofs.Parting.{HaveTurning}
use Rattle.net_tables.proofs.turning.turning_lists.Given as goal

-- the lists have those of the nets in front
abbrev pub invariant-loop-done : goal.invariant-loop-done
invariant-loop-done l = record {
  within : l.done ≤ length l.plans;
  long : length l.kept.items ≡ l.machine.width * l.machine.height;
  front : List NetPlan;
  whole : front ++ drop l.done l.plans ≡ l.plans;
  turning : HaveTurning l.machine front l.kept.items;
}

abbrev pub decreases-loop-done : goal.decreases-loop-done
decreases-loop-done l = length l.plans - l.done
