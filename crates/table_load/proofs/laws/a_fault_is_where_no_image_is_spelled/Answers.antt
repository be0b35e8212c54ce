use Rattle.table_load.proofs.Whole.{spelled_has_none, none_is_spelled, more_is_fault}
use Rattle.table_load.proofs.laws.a_fault_is_where_no_image_is_spelled.Goals as goal

pub returns-clause-spelled : goal.returns-clause-spelled
returns-clause-spelled c = spelled_has_none

pub returns-clause-not_spelled : goal.returns-clause-not_spelled
returns-clause-not_spelled c = none_is_spelled

pub returns-clause-more : goal.returns-clause-more
returns-clause-more c = more_is_fault
