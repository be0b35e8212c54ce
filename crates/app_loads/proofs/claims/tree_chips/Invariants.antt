use Rattle.app_loads.proofs.Common.{flat_map, take, tree_places, ◌≡◌}
use Rattle.app_loads.proofs.claims.tree_chips.Given as goal

-- the chips of the nets so far
abbrev pub invariant-loop-net : goal.invariant-loop-net
invariant-loop-net l = l.chips.items ≡ flat_map (tree_places l.nets.machine.now) (take l.net-index l.nets.list.now)
