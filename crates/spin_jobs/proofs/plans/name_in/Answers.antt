use Rattle.spin_jobs.proofs.Common.{IfOk-weaker, arith}
use Rattle.spin_jobs.proofs.Exclusive.{name_in_same}
use Rattle.spin_jobs.proofs.plans.name_in.Goals as goal

pub returns-in-NoRoom : goal.returns-in-NoRoom
returns-in-NoRoom c = grind (arith, IfOk-weaker, name_in_same)

pub returns-in-KeysOut : goal.returns-in-KeysOut
returns-in-KeysOut c = grind (arith, IfOk-weaker, name_in_same)

pub returns-in-CutOff : goal.returns-in-CutOff
returns-in-CutOff c = grind (arith, IfOk-weaker, name_in_same)
