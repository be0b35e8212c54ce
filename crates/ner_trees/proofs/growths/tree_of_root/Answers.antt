use Rattle.ner_trees.proofs.Common.{arith}
use Rattle.ner_trees.proofs.Growing.{root_tells}
use Rattle.ner_trees.proofs.growths.tree_of_root.Goals as goal

pub returns-clause-on_is : goal.returns-clause-on_is
returns-clause-on_is c = grind (arith, root_tells)
