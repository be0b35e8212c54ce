use Rattle.ner_trees.proofs.Common.{arith}
use Rattle.ner_trees.proofs.searches.six_places.Goals as goal

pub returns : goal.returns
returns c = grind arith
