use Rattle.app_loads.proofs.Common.{all_free, free_places_in, map, replicate, ◌++◌, ◌≡◌}
use Rattle.app_loads.proofs.opening.push_regions.Given as goal

-- so many regions stand behind those that were there
abbrev pub invariant-loop : goal.invariant-loop
invariant-loop l = map free_places_in l.regions.items ≡ map free_places_in l.initial.regions.items ++ replicate l.counter (all_free l.size.count)
