use Rattle.app_loads.proofs.Common.{end_places, flat_map, index_of, take, ◌++◌, ◌∷◌, ◌≡◌}
use Rattle.app_loads.proofs.claims.push_tree.Given as goal

-- the root, and the ends of the edges so far
abbrev pub invariant-loop-edge : goal.invariant-loop-edge
invariant-loop-edge l = l.chips.items ≡ l.fn.chips.items ++ index_of l.one.machine.now l.one.net.now.tree.root ∷ flat_map (end_places l.one.machine.now) (take l.edge-index l.edge-items)
