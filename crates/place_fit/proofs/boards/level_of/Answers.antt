use Rattle.place_fit.proofs.Common.{arith, cases_lt}
use Rattle.place_fit.proofs.boards.level_of.Goals as goal

pub returns-clause-level : goal.returns-clause-level
returns-clause-level c = grind (arith, cases_lt)
