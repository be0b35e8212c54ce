use Rattle.link_detours.proofs.Reaching.{reach_edges}
use Rattle.link_detours.proofs.detours.tree_reach.Goals as goal

pub returns-clause-reach : goal.returns-clause-reach
returns-clause-reach c =
    reach_edges c.args.tree.machine.now c.args.tree.root c.in_ok-table.table.items c.args.tree.list.now c.in_ok-reach.reach.items
    c.in_ok-table.ensures.flags c.args.tree.inside (rw c.deref.ensures.value at c.in_ok-reach.ensures.reached)
