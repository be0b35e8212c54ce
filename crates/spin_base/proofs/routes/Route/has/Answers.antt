use Rattle.std.proofs.Common.{◌+◌, arith}
use Rattle.spin_base.proofs.Outputs.{no_high_bit}
use Rattle.spin_base.proofs.routes.Route.has.Goals as goal

pub returns-else-core-lt-CORES : goal.returns-else-core-lt-CORES
returns-else-core-lt-CORES c = grind (arith, no_high_bit c.args.self (6 + c.in-Core.core) (omega arith))
