use Rattle.ner_trees.proofs.Common.{take, ◌∷◌}
use Rattle.ner_trees.proofs.Nearest.{IsLeastOf}
use Rattle.ner_trees.proofs.searches.least_nearness.Given as goal

-- of the root and the chips so far, the least number
abbrev pub invariant-loop-chip : goal.invariant-loop-chip
invariant-loop-chip l = IsLeastOf l.machine l.target (l.tree.root ∷ take l.chip-index l.chips) l.least
