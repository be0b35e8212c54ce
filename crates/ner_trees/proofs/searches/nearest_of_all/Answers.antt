use Rattle.std.proofs.Common.{rules}
use Rattle.ner_trees.proofs.Common.{Description, IsInside, index_of, subst, ◌%◌, ◌≡◌}
use Rattle.ner_trees.proofs.Nearest.{index_owed, near_chip_is, near_root_is}
use Rattle.ner_trees.proofs.searches.nearest_of_all.Goals as goal

pub chip_at-requires : goal.chip_at-requires
chip_at-requires c =
    rw c.machine.ensures
    (index_owed c.args.tree.now.on.machine.now c.args.tree.now.root c.args.target c.args.tree.now.edges.items c.least_nearness-least.result c.args.tree.now.on.size
    c.args.tree.now.root_inside c.args.tree.now.edges_inside c.least_nearness-least.ensures)

pub returns-then-least : goal.returns-then-least
returns-then-least c =
    near_chip_is c.args.tree.now.on.machine.now c.args.tree.now.root c.args.target c.args.tree.now.edges.items c.least_nearness-least.result c.args.tree.now.on.size
    c.args.tree.now.root_inside c.args.tree.now.edges_inside c.least_nearness-least.ensures c.chip_at.result c.if-least.true
    (subst (λ (m : Description). IsInside m c.chip_at.result) c.machine.ensures c.chip_at.ensures.inside)
    (subst (λ (m : Description). index_of m c.chip_at.result ≡ c.least_nearness-least.result % 4096) c.machine.ensures c.chip_at.ensures.back)

pub returns-else-least : goal.returns-else-least
returns-else-least c = search (rules, near_root_is)
