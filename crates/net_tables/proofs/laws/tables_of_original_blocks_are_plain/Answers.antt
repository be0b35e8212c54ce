use Rattle.net_tables.proofs.Whole.{all_plain_tables}
use Rattle.net_tables.proofs.laws.tables_of_original_blocks_are_plain.Goals as goal

pub returns : goal.returns
returns c = all_plain_tables
