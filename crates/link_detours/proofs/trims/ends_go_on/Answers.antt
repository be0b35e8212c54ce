use Rattle.link_detours.proofs.Common.{arith}
use Rattle.link_detours.proofs.Trimming.{chips_inside, goes_on}
use Rattle.link_detours.proofs.trims.ends_go_on.Goals as goal

pub invariant_of-seeds : goal.invariant_of-seeds
invariant_of-seeds c = grind (arith, chips_inside c.args.aimed.edges.machine.now c.args.aimed.edges.list.now c.args.aimed.targets.now c.args.aimed.edges.inside c.args.aimed.inside)

pub returns : goal.returns
returns c marked =
    goes_on c.args.aimed.edges.machine.now c.args.aimed.edges.list.now c.args.aimed.targets.now c.in_ok-chips.chips.items c.in_ok-table.table.items
    c.in_ok-chips.ensures c.args.aimed.edges.inside (λ x inside. ((rw c.deref.ensures.value at c.in_ok-table.ensures.seeds) x inside).0)
    (rw c.deref-2.ensures.value at (c.ends_are_marked.ensures marked))
