use Rattle.net_plans.proofs.Common.{drop, into_iter_items, length, ◌≡◌}
use Rattle.net_plans.proofs.Routing.{HaveWaysTo}
use Rattle.net_plans.proofs.nets.looked_through.Given as goal

-- the items so far have plans, and the others are left
abbrev pub invariant-loop-item : goal.invariant-loop-item
invariant-loop-item l =
    goal.iterator-loop-item.can_next l.item-iterator
    × goal.iterator-loop-item.is_finite l.item-iterator
    × HaveWaysTo l.fn.routed.items l.plans (length l.plans)
    × (into_iter_items l.item-iterator ≡ drop (length l.plans) l.fn.routed.items)
