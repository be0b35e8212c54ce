use Rattle.app_loads.proofs.Common.{all_grouped, length, take, ◌≡◌}
use Rattle.app_loads.proofs.groups.count_groups.Given as goal

-- those of the groups so far are counted
abbrev pub invariant-loop-group : goal.invariant-loop-group
invariant-loop-group l = l.count ≡ length (all_grouped (take l.group-index l.groups))
