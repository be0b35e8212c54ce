use Rattle.run_report.proofs.Common.{arith, sum_by, ◌-◌}
use Rattle.run_report.proofs.Gathering.{sum_more, capped_more}
use Rattle.run_report.proofs.unsents.unsent_of.Goals as goal

pub loop-vertex-preserved : goal.loop-vertex-preserved
loop-vertex-preserved c = grind (arith, capped_more, sum_by, sum_more)
