use Rattle.app_loads.proofs.Common.{AppNet, HasTreeInside, List, Some, [], ap, flat_map, flat_map_more, slice_get-get_or, subst, sym, take, take_more_at, tree_places, ℕ, ◌++◌, ◌∙◌}
use Rattle.app_loads.proofs.claims.tree_chips.Goals as goal

pub invariant_of-one : goal.invariant_of-one
invariant_of-one c = record { inside = subst (HasTreeInside c.args.nets.machine.now) (sym c.net-item.is) (c.args.nets.inside c.loop-net.net-index c.net-item.result c.loop-net-test.true) }

pub loop-net-preserved : goal.loop-net-preserved
loop-net-preserved c =
    let f : AppNet → List ℕ = tree_places c.args.nets.machine.now in
    let i = c.loop-net.net-index in
    let net = c.net-item.result in
    let at = slice_get-get_or c.args.nets.list.now i net c.loop-net-test.true ∙ ap Some (sym c.net-item.is) in
    c.in_ok-push_tree.ensures
    ∙ (ap (λ l. l ++ f net) c.loop-net.invariant ∙ (flat_map_more f [] (take i c.args.nets.list.now) net ∙ ap (flat_map f) (sym (take_more_at c.args.nets.list.now i net at))))
