-- The laws, as the lemmas say them.
use Rattle.default_routes.proofs.Determined.{one_list, one_table}
use Rattle.default_routes.proofs.laws.final_tables_are_determined.Goals as goal

pub returns : goal.returns
returns c = record { one_list = one_list; one_table = one_table }
