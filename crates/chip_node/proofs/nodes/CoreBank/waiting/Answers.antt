use Rattle.chip_node.proofs.Common.{arith, length, subst, sym, ◌<◌}
use Rattle.chip_node.proofs.Banking.{unsent_first}
use Rattle.chip_node.proofs.nodes.CoreBank.waiting.Goals as goal

pub returns-in-Some-clause-first : goal.returns-in-Some-clause-first
returns-in-Some-clause-first c = grind (arith, unsent_first)
