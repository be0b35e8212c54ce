use Rattle.ner_trees.proofs.Common.{Chip, Description, List, arith, subst, take_all, ◌∙◌, ◌∷◌}
use Rattle.ner_trees.proofs.Nearest.{IsLeastOf, least_start, least_more, least_of_tree}
use Rattle.ner_trees.proofs.searches.least_nearness.Goals as goal

pub invariant_of-pair-clause-from_inside : goal.invariant_of-pair-clause-from_inside
invariant_of-pair-clause-from_inside c = grind arith

pub loop-chip-init : goal.loop-chip-init
loop-chip-init c = least_start c.machine-machine.result.now c.args.tree.now.root c.args.target c.nearness-least.result c.nearness-least.ensures

pub loop-chip-preserved : goal.loop-chip-preserved
loop-chip-preserved c = grind (arith, least_more)

pub returns : goal.returns
returns c =
    let tree = c.args.tree.now in
    let seen : IsLeastOf tree.on.machine.now c.args.target (tree.root ∷ tree.on.chips.items) c.loop-chip.least =
    subst (λ (m : Description). IsLeastOf m c.args.target (tree.root ∷ tree.on.chips.items) c.loop-chip.least) c.machine-machine.ensures
    (subst (λ (chips : List Chip). IsLeastOf c.machine-machine.result.now c.args.target (tree.root ∷ chips) c.loop-chip.least)
    (take_all c.loop-chip.chip-index c.chips-chips.result.now c.loop-chip-test.false ∙ c.chips-chips.ensures) c.loop-chip.invariant) in
    least_of_tree tree.on.machine.now tree.root c.args.target tree.edges.items tree.on.items.items tree.on.chips.items c.loop-chip.least tree.root_inside tree.edges_inside
    c.requires.on_is tree.on.listed tree.on.all_listed seen
