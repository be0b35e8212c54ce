use Rattle.ner_trees.proofs.Common.{arith}
use Rattle.ner_trees.proofs.Signed.{distant_on_torus}
use Rattle.ner_trees.proofs.displacements.distance.Goals as goal

pub returns-then-wrap-clause-value : goal.returns-then-wrap-clause-value
returns-then-wrap-clause-value c = grind (arith, distant_on_torus)
