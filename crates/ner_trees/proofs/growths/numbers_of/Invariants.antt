use Rattle.ner_trees.proofs.Common.{All, IsEdgeNumber, edge_numbered, map, take, ◌≡◌}
use Rattle.ner_trees.proofs.growths.numbers_of.Given as goal

-- the numbers of the edges so far
abbrev pub invariant-loop-edge : goal.invariant-loop-edge
invariant-loop-edge l = record {
  back : map edge_numbered l.numbers.items ≡ take l.edge-index l.edges;
  numbers : All IsEdgeNumber l.numbers.items;
}
