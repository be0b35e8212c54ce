use Rattle.ner_trees.proofs.Common.{arith, ints, of_z, to_z}
use Rattle.ner_trees.proofs.Signed.{displaced_on_torus, displaced_on_grid}
use Rattle.ner_trees.proofs.displacements.displacement.Goals as goal

pub returns-then-wrap-clause-value : goal.returns-then-wrap-clause-value
returns-then-wrap-clause-value c = grind (arith, displaced_on_torus)

pub returns-else-wrap-clause-value : goal.returns-else-wrap-clause-value
returns-else-wrap-clause-value c = grind (arith, to_z, of_z, ints, displaced_on_grid)
