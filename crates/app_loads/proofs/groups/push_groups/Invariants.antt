use Rattle.app_loads.proofs.Common.{all_grouped, take, ◌++◌, ◌≡◌}
use Rattle.app_loads.proofs.groups.push_groups.Given as goal

-- those of the groups so far
abbrev pub invariant-loop-group : goal.invariant-loop-group
invariant-loop-group l = l.list ≡ l.fn.list ++ all_grouped (take l.group-index l.groups)
