use Rattle.plan_check.proofs.Common.{arith}
use Rattle.plan_check.proofs.TreeLaws.{alone_tells}
use Rattle.plan_check.proofs.trees.is_tree.Goals as goal

pub returns-then-not-is_inside : goal.returns-then-not-is_inside
returns-then-not-is_inside c =
    grind (arith, alone_tells c.args.machine.now c.args.root c.args.edges.now c.args.targets.now c.is_inside.result c.is_alone.result c.is_inside.ensures c.if-not-is_inside.true c.is_alone.ensures)
