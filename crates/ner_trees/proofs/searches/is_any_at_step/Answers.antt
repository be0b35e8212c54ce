use Rattle.std.proofs.Common.{rules}
use Rattle.ner_trees.proofs.Searching.{sees, sees_any}
use Rattle.ner_trees.proofs.searches.is_any_at_step.Goals as goal

pub returns : goal.returns
returns c = search (rules, sees_any, sees)
