use Rattle.plan_check.proofs.Common.{get_or-replicate, ◌∙◌}
use Rattle.plan_check.proofs.verdicts.route_board.Goals as goal

pub returns : goal.returns
returns c = λ k d below. get_or-replicate 4096 k c.nothing.result d below ∙ c.nothing.ensures
