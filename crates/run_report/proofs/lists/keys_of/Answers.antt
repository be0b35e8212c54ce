use Rattle.run_report.proofs.Common.{arith, slice_get-map, zip_more}
use Rattle.run_report.proofs.lists.keys_of.Goals as goal

pub loop-i-preserved : goal.loop-i-preserved
loop-i-preserved c = grind (arith, zip_more, slice_get-map)
