use Rattle.ner_trees.proofs.Common.{ap, arith, far_inside, or_stay, sym}
use Rattle.ner_trees.proofs.cuts.next.Goals as goal

pub returns-in-Some : goal.returns-in-Some
returns-in-Some c = grind (arith, far_inside c.args.machine.now c.args.at c.in-Some.chip c.args.dir c.requires (sym c.in-Some.ensures))

pub returns-in-None : goal.returns-in-None
returns-in-None c = record { value = ap (or_stay c.args.at) c.in-None.ensures; inside = c.requires }
