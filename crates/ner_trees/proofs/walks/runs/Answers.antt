use Rattle.ner_trees.proofs.Common.{arith, ints, of_z, to_z, w32, ◌∙◌, ◌≡◌}
use Rattle.ner_trees.proofs.Signed.{runs_steps}
use Rattle.ner_trees.proofs.walks.runs.Goals as goal

pub returns : goal.returns
returns c =
    let ea : to_z w32 (of_z w32 c.args.d.a) ≡ c.args.d.a = omega (arith, ints) in
    let eb : to_z w32 (of_z w32 c.args.d.b) ≡ c.args.d.b = omega (arith, ints) in
    c.longest_first.ensures ∙ runs_steps c.args.d _ _ c.along.result c.along-2.result c.along-3.result _ _ _ _ _ _ ea eb c.forth-east.ensures c.back-west.ensures
    c.forth-north.ensures c.back-south.ensures c.min-north_east.ensures c.min-south_west.ensures c.along.ensures c.along-2.ensures c.along-3.ensures
