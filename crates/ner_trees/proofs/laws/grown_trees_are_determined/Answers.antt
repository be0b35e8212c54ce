use Rattle.ner_trees.proofs.Determined.{one_near, one_branch, one_tree}
use Rattle.ner_trees.proofs.laws.grown_trees_are_determined.Goals as goal

pub returns : goal.returns
returns c = record { one_near = one_near; one_branch = one_branch; one_tree = one_tree }
