use Rattle.link_detours.proofs.Common.{arith}
use Rattle.link_detours.proofs.{Reaching.edges_inside, Trimming.sorted_stay}
use Rattle.link_detours.proofs.trims.trimmed.Goals as goal

pub invariant_of-edges : goal.invariant_of-edges
invariant_of-edges c = grind (arith, edges_inside)

pub returns-then-not-branch-clause-left : goal.returns-then-not-branch-clause-left
returns-then-not-branch-clause-left c = rw c.deref.ensures.value at c.pruned.ensures.left

pub returns-then-is_in_order-clause-in_order : goal.returns-then-is_in_order-clause-in_order
returns-then-is_in_order-clause-in_order c = rw c.deref.ensures.value at (c.is_in_order.ensures c.if-is_in_order.true)

pub returns-then-is_in_order-clause-left : goal.returns-then-is_in_order-clause-left
returns-then-is_in_order-clause-left c =
    sorted_stay c.args.broken.ground.machine.now c.args.broken.root c.args.whole.items c.args.whole.items (λ e. (λ has. has, λ has. has))
    c.args.broken.targets.now c.requires.is_whole c.args.broken.some_target c.requires.on_tree (returns-then-is_in_order-clause-in_order c)
    (rw c.deref.ensures.value at (c.in_ok-ends_go_on.ensures c.if-not-branch.false))

pub returns-clause-left : goal.returns-clause-left
returns-clause-left c =
    sorted_stay c.args.broken.ground.machine.now c.args.broken.root c.args.whole.items c.in_ok-left.left.items
    (rw c.deref.ensures.value at c.in_ok-left.ensures.same) c.args.broken.targets.now c.requires.is_whole c.args.broken.some_target c.requires.on_tree
    c.in_ok-left.ensures.in_order (rw c.deref.ensures.value at (c.in_ok-ends_go_on.ensures c.if-not-branch.false))
