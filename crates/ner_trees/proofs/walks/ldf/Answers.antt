use Rattle.ner_trees.proofs.Common.{ap, length, sum_of, ◌∙◌}
use Rattle.ner_trees.proofs.LongestFirst.{ldf_length, ldf_sum}
use Rattle.ner_trees.proofs.walks.ldf.Goals as goal

pub returns-clause-steps : goal.returns-clause-steps
returns-clause-steps c = c.from_vec.ensures ∙ c.in_ok-walk_anew.ensures

pub returns-clause-as_many_as_the_length : goal.returns-clause-as_many_as_the_length
returns-clause-as_many_as_the_length c = ap length (c.from_vec.ensures ∙ c.in_ok-walk_anew.ensures) ∙ ldf_length c.args.d

pub returns-clause-adds_up : goal.returns-clause-adds_up
returns-clause-adds_up c = ap sum_of (c.from_vec.ensures ∙ c.in_ok-walk_anew.ensures) ∙ ldf_sum c.args.d
