use Rattle.key_alloc.proofs.Common.{AreFirstBlocks, AreKeysFreeBeside, fixed_of, length, ◌++◌, ◌≡◌}
use Rattle.key_alloc.proofs.alloc.keys.Given as goal

-- the nets so far have their blocks, and the region has all other keys but those of fixed blocks
abbrev pub invariant-loop-i : goal.invariant-loop-i
invariant-loop-i l = record {
  each_one : length l.blocks ≡ l.i;
  first : AreFirstBlocks l.graph.nets l.blocks;
  free : AreKeysFreeBeside (fixed_of l.graph.nets ++ l.blocks) l.free;
}
