use Rattle.link_detours.proofs.Common.{arith, live_inside}
use Rattle.link_detours.proofs.Keeping.{live_edges_inside, kept_is, kept_whole}
use Rattle.link_detours.proofs.repairs.kept_edges.Goals as goal

pub invariant_of-links : goal.invariant_of-links
invariant_of-links c = record { inside = rw (c.deref.ensures.value, c.in_ok-live.ensures) (live_edges_inside c.args.broken.ground.machine.now c.args.broken.edges.now) }

pub invariant_of-tree : goal.invariant_of-tree
invariant_of-tree c = grind (arith, live_inside, live_edges_inside)

pub returns-clause-kept : goal.returns-clause-kept
returns-clause-kept c =
    rw (c.in_ok-kept.ensures, c.deref-2.ensures.value, c.deref.ensures.value, c.in_ok-live.ensures)
    (kept_is c.args.broken.ground.machine.now c.args.broken.root c.args.broken.edges.now c.in_ok-reach.reach.items
    (live_inside c.args.broken.ground.machine.now c.args.broken.root c.args.broken.is_tree.root_lives) c.args.broken.is_tree.none_into_root c.args.broken.is_tree.one_into_each
    (rw (c.deref.ensures.value, c.in_ok-live.ensures) at c.in_ok-reach.ensures.reach))

pub returns-clause-is_whole : goal.returns-clause-is_whole
returns-clause-is_whole c =
    rw (c.in_ok-kept.ensures, c.deref-2.ensures.value, c.deref.ensures.value, c.in_ok-live.ensures)
    (kept_whole c.args.broken.ground.machine.now c.args.broken.root c.args.broken.edges.now c.in_ok-reach.reach.items
    (live_inside c.args.broken.ground.machine.now c.args.broken.root c.args.broken.is_tree.root_lives) c.args.broken.is_tree.none_into_root c.args.broken.is_tree.one_into_each
    (rw (c.deref.ensures.value, c.in_ok-live.ensures) at c.in_ok-reach.ensures.reach))
