use Rattle.ner_trees.proofs.Common.{arith}
use Rattle.ner_trees.proofs.Torus.{torus_length}
use Rattle.ner_trees.proofs.displacements.length_on_torus.Goals as goal

pub returns-clause-value : goal.returns-clause-value
returns-clause-value c = grind (arith, torus_length c.args.across.places c.args.up.places c.args.across.place c.args.up.place c.args.across.inside c.args.up.inside)
