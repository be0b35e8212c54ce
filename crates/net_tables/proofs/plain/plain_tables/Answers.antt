use Rattle.net_tables.proofs.Common.{arith}
use Rattle.net_tables.proofs.Whole.{all_plain_tables}
use Rattle.net_tables.proofs.plain.plain_tables.Goals as goal

pub returns : goal.returns
returns c =
    let tables = rw c.as_slice.ensures at c.in_ok-tables.ensures in
    grind (arith, all_plain_tables c.args.machine.now c.args.nets.now c.in_ok-blocks.blocks c.in_ok-tables.tables c.requires c.in_ok-blocks.ensures.blocks tables)
