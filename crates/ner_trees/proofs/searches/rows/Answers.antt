use Rattle.ner_trees.proofs.searches.rows.Goals as goal

pub returns : goal.returns
returns c = rw (c.wrap.ensures, c.height-places.ensures.value, c.machine-machine.ensures) at c.six_places.ensures
