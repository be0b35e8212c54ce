use Rattle.key_alloc.proofs.Common.{AreKeysFreeBeside, Block, List, ◌-◌}
use Rattle.key_alloc.proofs.free.FreeKeys.take.Given as goal

-- the same blocks are taken
abbrev pub invariant-loop-place : goal.invariant-loop-place
invariant-loop-place l = (taken : List Block) → AreKeysFreeBeside taken l.initial.self → AreKeysFreeBeside taken l.self

abbrev pub decreases-loop-place : goal.decreases-loop-place
decreases-loop-place l = 4294967296 - l.self.frontier
