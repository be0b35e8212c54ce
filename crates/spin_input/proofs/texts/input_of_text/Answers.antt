use Rattle.std.proofs.Common.{arith}
use Rattle.spin_input.proofs.JobBytes.{fitted_input, read_ok, read_err, unparsed_err}
use Rattle.spin_input.proofs.texts.input_of_text.Goals as goal

pub returns-in-Ok-read-clause-input : goal.returns-in-Ok-read-clause-input
returns-in-Ok-read-clause-input g c = grind (arith, read_ok, fitted_input)

pub returns-in-Err-read-clause-err : goal.returns-in-Err-read-clause-err
returns-in-Err-read-clause-err g c = grind (arith, read_err, fitted_input)

pub returns-in-Err-clause-err : goal.returns-in-Err-clause-err
returns-in-Err-clause-err g c = grind (arith, unparsed_err)
