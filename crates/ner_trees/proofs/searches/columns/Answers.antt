use Rattle.ner_trees.proofs.searches.columns.Goals as goal

pub returns : goal.returns
returns c = rw (c.wrap.ensures, c.width-places.ensures.value, c.machine-machine.ensures) at c.six_places.ensures
