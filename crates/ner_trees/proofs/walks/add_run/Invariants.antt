use Rattle.ner_trees.proofs.Common.{replicate, ◌++◌, ◌≡◌}
use Rattle.ner_trees.proofs.walks.add_run.Given as goal

-- so many steps as were counted are added
abbrev pub invariant-loop : goal.invariant-loop
invariant-loop l = l.walk.items ≡ l.fn.walk.items ++ replicate l.counter l.run.dir
