use Rattle.ner_trees.proofs.Common.{IsCutAt, IsInside, end_of_walk, take, ◌≡◌}
use Rattle.ner_trees.proofs.cuts.new_branch.Given as goal

-- the walk so far is cut at its last chip that is in the tree
abbrev pub invariant-loop-dir : goal.invariant-loop-dir
invariant-loop-dir l = record {
  at_end : l.at ≡ end_of_walk l.on.machine.now l.fn.near.chip (take l.dir-index l.walk);
  at_inside : IsInside l.on.machine.now l.at;
  cut : IsCutAt l.on.machine.now l.on.items.items l.fn.near.chip (take l.dir-index l.walk) l.start l.links.items;
}
