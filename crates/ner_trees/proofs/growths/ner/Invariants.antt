use Rattle.ner_trees.proofs.Common.{take, ◌≡◌}
use Rattle.ner_trees.proofs.Growing.{GrownSoFar}
use Rattle.ner_trees.proofs.growths.ner.Given as goal

-- the tree of the targets so far
abbrev pub invariant-loop-target : goal.invariant-loop-target
invariant-loop-target l = record {
  machine : l.tree.on.machine.now ≡ l.ends.machine.now;
  root : l.tree.root ≡ l.ends.root;
  grown : GrownSoFar l.ends.machine.now l.ends.root l.tree.on.items.items l.tree.edges.items l.joins (take l.target-index l.ends.targets.now);
}
