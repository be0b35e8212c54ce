use Rattle.net_plans.proofs.Common.{whole_repaired}
use Rattle.net_plans.proofs.nets.with_detours.Goals as goal

pub returns-then-carry-clause-repaired : goal.returns-then-carry-clause-repaired
returns-then-carry-clause-repaired c =
    let tree = c.requires.grown.whole (rw c.as_slice-edges.ensures at c.carry.ensures.0 c.if-carry.true) in
    whole_repaired c.args.ground.machine.now c.args.tree.root c.args.tree.edges c.args.chips.now tree c.requires.grown.in_order
