use Rattle.ner_trees.proofs.Common.{IsNoneNearer}
use Rattle.ner_trees.proofs.searches.near_chip.Given as goal

-- no chip of the tree is on the rings so far
abbrev pub invariant-loop-chips : goal.invariant-loop-chips
invariant-loop-chips l = IsNoneNearer l.tree.on.machine.now l.tree.on.items.items l.target l.chips
