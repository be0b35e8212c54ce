use Rattle.run_report.proofs.Common.{arith}
use Rattle.run_report.proofs.texts.text_of.Goals as goal

pub returns : goal.returns
returns c = grind arith
