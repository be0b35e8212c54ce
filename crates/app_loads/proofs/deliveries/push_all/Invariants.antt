use Rattle.app_loads.proofs.Common.{take, ◌++◌, ◌≡◌}
use Rattle.app_loads.proofs.deliveries.push_all.Given as goal

-- those so far
abbrev pub invariant-loop-delivery : goal.invariant-loop-delivery
invariant-loop-delivery l = l.list ≡ l.fn.list ++ take l.delivery-index l.more
