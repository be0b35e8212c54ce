use Rattle.net_tables.proofs.Whole.{turning_apart}
use Rattle.net_tables.proofs.turning.turning_blocks.Goals as goal

pub returns-clause-apart : goal.returns-clause-apart
returns-clause-apart c =
    rw c.from_vec.ensures (turning_apart c.args.machine.now c.args.nets.now c.in_ok-lists.lists.items c.requires c.in_ok-lists.ensures)
