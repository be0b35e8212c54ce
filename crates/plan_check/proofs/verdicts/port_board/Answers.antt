use Rattle.plan_check.proofs.Common.{None, get_or-replicate}
use Rattle.plan_check.proofs.verdicts.port_board.Goals as goal

pub returns : goal.returns
returns c = λ k d below. get_or-replicate 4096 k None d below
