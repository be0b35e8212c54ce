-- The block of all keys.
use Rattle.table_rules.proofs.Common.{Block, Local, RoutedBlock, ap, refl, same_block}
use Rattle.table_rules.proofs.walling.wall.Goals as goal

pub returns : goal.returns
returns c = ap (λ (b : Block). let r : RoutedBlock = record { block = b; route = c.args.route; port = Local } in r) (same_block _ _ refl refl)
