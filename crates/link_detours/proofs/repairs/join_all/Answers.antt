use Rattle.link_detours.proofs.Common.{arith, live_inside, slice_get-get_or, take_all, ◌∙◌}
use Rattle.link_detours.proofs.{Keeping.joined_more, Keeping.first_cut_off, Reaching.edges_inside}
use Rattle.link_detours.proofs.repairs.join_all.Goals as goal

pub invariant_of-edges : goal.invariant_of-edges
invariant_of-edges c = grind (arith, live_inside, edges_inside)

pub put_tree-requires : goal.put_tree-requires
put_tree-requires c = rw c.deref_mut-chips.ensures.value c.in_ok-words.ensures

pub join-requires : goal.join-requires
join-requires c = record { long = c.loop-target.invariant.long; told = c.loop-target.invariant.told }

pub loop-target-init : goal.loop-target-init
loop-target-init c = grind arith

pub loop-target-preserved : goal.loop-target-preserved
loop-target-preserved c =
    let joined = c.in_ok-joined.ensures.joined c.if-not-joined.false in
    joined_more c.args.broken.ground.machine.now c.args.broken.root c.args.kept.items c.loop-target.whole.items c.join.new.whole.items c.loop-target.chips c.join.new.tree
    c.args.broken.targets.now c.loop-target.target-index _ joined.0 c.loop-target-test.true joined.1 joined.2
    (c.join.auto.tree ∙ c.loop-target.invariant.long) (c.in_ok-joined.ensures.chips c.if-not-joined.false) c.loop-target.invariant

pub returns-then-not-joined-clause-cut_off : goal.returns-then-not-joined-clause-cut_off
returns-then-not-joined-clause-cut_off c = grind (arith, first_cut_off, slice_get-get_or)

pub returns-clause-on_tree : goal.returns-clause-on_tree
returns-clause-on_tree c = rw (take_all c.loop-target.target-index c.args.broken.targets.now c.loop-target-test.false) at c.loop-target.invariant.on_tree
