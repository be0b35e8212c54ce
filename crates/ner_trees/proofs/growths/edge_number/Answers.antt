use Rattle.ner_trees.proofs.Common.{arith}
use Rattle.ner_trees.proofs.Numbering.{edge_back}
use Rattle.ner_trees.proofs.growths.edge_number.Goals as goal

pub returns-clause-back : goal.returns-clause-back
returns-clause-back c = grind (arith, edge_back)
