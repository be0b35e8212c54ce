use Rattle.table_load.proofs.Whole.{one_spelling, no_longer}
use Rattle.table_load.proofs.laws.an_image_has_one_spelling.Goals as goal

pub returns-clause-one : goal.returns-clause-one
returns-clause-one c = one_spelling

pub returns-clause-apart : goal.returns-clause-apart
returns-clause-apart c = no_longer
