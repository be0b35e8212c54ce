use Rattle.ner_trees.proofs.Common.{inl, inr, refl}
use Rattle.ner_trees.proofs.{Growing.near_is, Searching.none_nearer_none, Searching.none_at_start}
use Rattle.ner_trees.proofs.searches.near_chip.Goals as goal

pub loop-chips-init : goal.loop-chips-init
loop-chips-init c = none_at_start c.args.tree.now.on.machine.now c.args.tree.now.on.items.items c.args.target

pub loop-chips-preserved : goal.loop-chips-preserved
loop-chips-preserved c = c.in_default.ensures.none

pub invariant_of-ring : goal.invariant_of-ring
invariant_of-ring c = record { none_nearer = c.loop-chips.invariant }

pub returns-in-Some : goal.returns-in-Some
returns-in-Some c =
    near_is c.args.tree.now.on.machine.now c.args.tree.now.root c.args.tree.now.on.items.items c.args.tree.now.edges.items c.args.target c.in-Some.chip c.args.tree.now.root_inside c.args.tree.now.edges_inside c.requires.on_is
    (inl c.in-Some.ensures.found)

pub returns : goal.returns
returns c =
    near_is c.args.tree.now.on.machine.now c.args.tree.now.root c.args.tree.now.on.items.items c.args.tree.now.edges.items c.args.target c.args.tree.now.root c.args.tree.now.root_inside c.args.tree.now.edges_inside c.requires.on_is
    (inr (none_nearer_none c.args.tree.now.on.machine.now c.args.tree.now.on.items.items c.args.target c.loop-chips.chips c.loop-chips-test.false c.loop-chips.invariant, refl))
