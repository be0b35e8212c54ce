use Rattle.app_loads.proofs.Common.{all_grouped, false, filter, into_iter_items, is_delivery_of, is_mixed_group, length, list_any, not, vec_capacity, vec_len, ◌++◌, ◌+◌, ◌≡◌, ◌≤◌}
use Rattle.app_loads.proofs.groups.Groups.part.Given as goal

-- what is in the lists and what is left are all, and there is room for what is left
abbrev pub invariant-loop-group : goal.invariant-loop-group
invariant-loop-group l =
    goal.iterator-loop-group.can_next l.group-iterator
    × goal.iterator-loop-group.is_finite l.group-iterator
    × (all_grouped l.own.items ++ filter (is_delivery_of l.app) (all_grouped (into_iter_items l.group-iterator)) ≡ filter (is_delivery_of l.app) (all_grouped l.fn.self))
    × (all_grouped l.others.items ++ filter (λ d. not (is_delivery_of l.app d)) (all_grouped (into_iter_items l.group-iterator))
    ≡ filter (λ d. not (is_delivery_of l.app d)) (all_grouped l.fn.self))
    × (vec_len l.own + length (into_iter_items l.group-iterator) ≤ vec_capacity l.own)
    × (vec_len l.others + length (into_iter_items l.group-iterator) ≤ vec_capacity l.others)
    × (list_any (is_mixed_group l.app) (into_iter_items l.group-iterator) ≡ false)
