use Rattle.link_detours.proofs.Common.{length, take, ◌≡◌}
use Rattle.link_detours.proofs.Putting.{TellsTree}
use Rattle.link_detours.proofs.sets.put_tree.Given as goal

-- the set has the chips of the tree that the edges so far make
abbrev pub invariant-loop-edge : goal.invariant-loop-edge
invariant-loop-edge l = record {
  long : length l.set ≡ l.edges.ground.machine.now.width;
  told : TellsTree l.edges.ground.machine.now l.edges.root (take l.edge-index l.edges.list.now) l.set;
}
